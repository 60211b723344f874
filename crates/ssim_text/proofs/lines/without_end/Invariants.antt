-- What is left of the line ends where it did, but for bytes that are dropped.
use Rattle.std.proofs.Common.{◌≡◌, length}
use Rattle.ssim_text.specs.Left.{without_end}
use Rattle.ssim_text.proofs.lines.without_end.Given as goal

abbrev pub invariant-loop-line : goal.invariant-loop-line
invariant-loop-line l = without_end l.line ≡ without_end l.initial.line

abbrev pub decreases-loop-line : goal.decreases-loop-line
decreases-loop-line l = length l.line
