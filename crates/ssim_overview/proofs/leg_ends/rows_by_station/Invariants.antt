-- The rows so far are at the ranks of their stations.
use Rattle.std.proofs.Common.{map, take}
use Rattle.ssim_overview.specs.internal.StationNotes.{AreByStation}
use Rattle.ssim_overview.proofs.leg_ends.rows_by_station.Given as goal

abbrev pub invariant-loop-row : goal.invariant-loop-row
invariant-loop-row l = AreByStation (take l.row-index l.rows)
    (map (λ list. list.items) l.table.items)
