-- The blanks so far were added.
use Rattle.std.proofs.Common.{◌≡◌, ◌++◌, replicate}
use Rattle.ssim_lines.proofs.printed.push_blanks.Given as goal

abbrev pub invariant-loop-number : goal.invariant-loop-number
invariant-loop-number l = l.lines.items ≡ l.initial.lines.items ++ replicate l.number 32
