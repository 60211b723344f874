-- What is left begins where the bytes do, but for blanks.
use Rattle.std.proofs.Common.{◌≡◌, length}
use Rattle.ssim_sql.specs.Blanks.{without_start}
use Rattle.ssim_sql.proofs.blanks.without_start.Given as goal

abbrev pub invariant-loop-left : goal.invariant-loop-left
invariant-loop-left l = without_start l.left ≡ without_start l.initial.left

abbrev pub decreases-loop-left : goal.decreases-loop-left
decreases-loop-left l = length l.left
