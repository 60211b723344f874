use Rattle.std.proofs.Common.{◌-◌, ◌≤◌, length}
use Rattle.ssim_periods.proofs.cover.union.joined_with_last.Given as goal

abbrev pub invariant-loop-place : goal.invariant-loop-place
invariant-loop-place l = l.place ≤ length l.periods

abbrev pub decreases-loop-place : goal.decreases-loop-place
decreases-loop-place l = l.place - l.least
