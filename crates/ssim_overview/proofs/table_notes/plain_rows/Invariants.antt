-- The rows so far.
use Rattle.std.proofs.Common.{◌≡◌, take}
use Rattle.ssim_overview.proofs.table_notes.plain_rows.Given as goal

abbrev pub invariant-loop-row : goal.invariant-loop-row
invariant-loop-row l = l.plain.items ≡ take l.row-index l.rows
