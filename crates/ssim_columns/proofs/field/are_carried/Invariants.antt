-- All are carried if those that were passed and those that are left are.
use Rattle.std.proofs.Common.{◌≡◌, ◌&&◌, drop}
use Rattle.std.specs.List.{list_all}
use Rattle.ssim_columns.specs.Columns.{is_carried}
use Rattle.ssim_columns.proofs.field.are_carried.Given as goal

abbrev pub invariant-loop-byte : goal.invariant-loop-byte
invariant-loop-byte l = (l.all && list_all is_carried (drop l.byte-index l.text)) ≡ list_all is_carried l.text
