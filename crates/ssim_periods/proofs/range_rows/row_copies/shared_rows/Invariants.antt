-- The rows so far are copied.
use Rattle.std.proofs.Common.{◌≡◌, take}
use Rattle.ssim_periods.proofs.range_rows.row_copies.shared_rows.Given as goal

abbrev pub invariant-loop-row : goal.invariant-loop-row
invariant-loop-row g l = l.copies.items ≡ take l.row-index l.rows
