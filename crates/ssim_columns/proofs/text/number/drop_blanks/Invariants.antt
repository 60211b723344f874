use Rattle.std.proofs.Common.{◌≡◌, ◌≤◌, length}
use Rattle.ssim_columns.specs.Numbers.{drop_blanks}
use Rattle.ssim_columns.proofs.text.number.drop_blanks.Given as goal

abbrev pub invariant-loop-text : goal.invariant-loop-text
invariant-loop-text l = (length l.text ≤ length l.fn.text) × (drop_blanks l.text ≡ drop_blanks l.fn.text)

abbrev pub decreases-loop-text : goal.decreases-loop-text
decreases-loop-text l = length l.text
