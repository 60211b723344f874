-- The lines so far are kept.
use Rattle.std.proofs.Common.{◌≡◌, take}
use Rattle.ssim_text.proofs.leg.Legs.of.Given as goal

abbrev pub invariant-loop-line : goal.invariant-loop-line
invariant-loop-line l = l.legs ≡ take l.line-index l.lines
