-- The lines so far and the lines of the rest are the lines of the text.
use Rattle.std.proofs.Common.{◌≡◌, ◌≤◌, ◌+◌, ◌++◌, map, length}
use Rattle.std.specs.List.{All}
use Rattle.ssim_text.specs.Left.{left_from, lines_left, pieces}
use Rattle.ssim_text.proofs.lines.lines_left.Given as goal

abbrev pub invariant-loop-lines : goal.invariant-loop-lines
invariant-loop-lines l = record { lines : map (λ x. (x.number, x.bytes.now)) l.lines.items ++ left_from l.number (pieces l.rest) ≡ lines_left l.initial.rest; bound : l.number + length l.rest ≤ 1 + length l.initial.rest; numbers : All (λ x. x.number ≤ 1 + length l.initial.rest) l.lines.items }

abbrev pub decreases-loop-lines : goal.decreases-loop-lines
decreases-loop-lines l = length l.rest
