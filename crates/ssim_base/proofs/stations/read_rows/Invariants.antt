-- The rows so far and the rows of the rest are the rows of the text.
use Rattle.std.proofs.Common.{◌≡◌, ◌≤◌, ◌+◌, length}
use Rattle.ssim_text.specs.Left.{left_from, lines_left, pieces}
use Rattle.ssim_base.specs.internal.StationRows.{rows_of}
use Rattle.ssim_base.proofs.StationLines.{rows_on}
use Rattle.ssim_base.proofs.stations.read_rows.Given as goal

abbrev pub invariant-loop-rows : goal.invariant-loop-rows
invariant-loop-rows l = record { rows : rows_on l.rows.items (rows_of (left_from l.number (pieces l.rest))) ≡ rows_of (lines_left l.initial.rest); bound : l.number + length l.rest ≤ 1 + length l.initial.rest }

abbrev pub decreases-loop-rows : goal.decreases-loop-rows
decreases-loop-rows l = length l.rest
