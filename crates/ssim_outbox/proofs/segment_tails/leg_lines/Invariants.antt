-- The leg lines so far.
use Rattle.std.proofs.Common.{◌≡◌, map, take}
use Rattle.ssim_outbox.specs.Reason.{leg_line}
use Rattle.ssim_outbox.proofs.segment_tails.leg_lines.Given as goal

abbrev pub invariant-loop-leg : goal.invariant-loop-leg
invariant-loop-leg l = l.lines.items ≡ map leg_line (take l.leg-index l.legs)
