-- The notes on the stations of the ranks so far.
use Rattle.std.proofs.Common.{◌≡◌, map}
use Rattle.std.specs.List.{flat_map, range_with_len}
use Rattle.ssim_overview.specs.internal.StationNotes.{rank_notes}
use Rattle.ssim_overview.proofs.table_notes.station_notes.Given as goal

abbrev pub invariant-loop-rank : goal.invariant-loop-rank
invariant-loop-rank l =
    l.notes.items
    ≡ flat_map
    (rank_notes (map (λ list. list.items) l.table.items) (map (λ list. list.items) l.ends.items))
    (range_with_len 0 l.rank)
