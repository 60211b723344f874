use Rattle.std.proofs.Common.{◌≡◌, drop}
use Rattle.ssim_columns.specs.Columns.{first_fault}
use Rattle.ssim_columns.proofs.field.first_fault.Given as goal

abbrev pub invariant-loop-field : goal.invariant-loop-field
invariant-loop-field l = first_fault l.bytes (drop l.field-index l.fields) ≡ first_fault l.bytes l.fields
