use Rattle.std.proofs.Common.{◌≡◌, drop}
use Rattle.ssim_columns.specs.Columns.{place_of_other, is_carried}
use Rattle.ssim_columns.proofs.field.place_of_other.Given as goal

abbrev pub invariant-loop-i : goal.invariant-loop-i
invariant-loop-i l = place_of_other is_carried l.i (drop l.i l.text) ≡ place_of_other is_carried 0 l.text
