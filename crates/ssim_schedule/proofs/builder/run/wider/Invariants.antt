use Rattle.std.proofs.Common.{◌≤◌, length}
use Rattle.ssim_schedule.proofs.builder.run.wider.Given as goal

abbrev pub invariant-loop-place : goal.invariant-loop-place
invariant-loop-place l = l.place ≤ length l.runs

abbrev pub decreases-loop-place : goal.decreases-loop-place
decreases-loop-place l = l.place
