-- All are printed if those that were passed and those that are left are.
use Rattle.std.proofs.Common.{◌≡◌, ◌&&◌, drop}
use Rattle.std.specs.Prelude.{nat_lt}
use Rattle.std.specs.List.{list_all}
use Rattle.ssim_columns.specs.clauses.Columns.{is_printed}
use Rattle.ssim_columns.proofs.field.are_printed.Given as goal

abbrev pub invariant-loop-byte : goal.invariant-loop-byte
invariant-loop-byte l = (nat_lt l.most 95 && list_all is_printed (drop l.byte-index l.text)) ≡ list_all is_printed l.text
