use Rattle.std.proofs.Common.{◌≡◌, drop}
use Rattle.std.specs.List.{flat_map}
use Rattle.ssim_columns.specs.Columns.{first_fault}
use Rattle.ssim_columns.proofs.field.first_fault_of.Given as goal

abbrev pub invariant-loop-table : goal.invariant-loop-table
invariant-loop-table l =
    first_fault l.bytes (flat_map (λ table. table.now) (drop l.table-index l.tables)) ≡ first_fault l.bytes (flat_map (λ table. table.now) l.tables)
