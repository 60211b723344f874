-- The ends of the records so far are at the ranks of their stations.
use Rattle.std.proofs.Common.{map, take}
use Rattle.ssim_overview.specs.internal.StationNotes.{AreEnds, records_ends}
use Rattle.ssim_overview.proofs.leg_ends.ends_by_station.Given as goal

abbrev pub invariant-loop-record : goal.invariant-loop-record
invariant-loop-record l =
    AreEnds (map (λ list. list.items) l.table) (records_ends (take l.record-index l.records))
    (map (λ list. list.items) l.ends.items)
