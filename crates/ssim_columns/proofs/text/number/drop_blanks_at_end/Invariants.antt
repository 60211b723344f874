use Rattle.std.proofs.Common.{◌≡◌, ◌≤◌, length}
use Rattle.ssim_columns.specs.Numbers.{drop_blanks_at_end}
use Rattle.ssim_columns.proofs.text.number.drop_blanks_at_end.Given as goal

abbrev pub invariant-loop-text : goal.invariant-loop-text
invariant-loop-text l = (length l.text ≤ length l.fn.text) × (drop_blanks_at_end l.text ≡ drop_blanks_at_end l.fn.text)

abbrev pub decreases-loop-text : goal.decreases-loop-text
decreases-loop-text l = length l.text
