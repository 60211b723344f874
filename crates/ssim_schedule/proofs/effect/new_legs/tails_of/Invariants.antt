use Rattle.std.proofs.Common.{◌≡◌, ◌++◌, drop}
use Rattle.ssim_schedule.specs.Effect.{tails_for}
use Rattle.ssim_schedule.proofs.effect.new_legs.tails_of.Given as goal

abbrev pub invariant-loop-segment : goal.invariant-loop-segment
invariant-loop-segment l = l.tails.items ++ tails_for l.place l.lines (drop l.segment-index l.segments) ≡ tails_for l.place l.lines l.segments
