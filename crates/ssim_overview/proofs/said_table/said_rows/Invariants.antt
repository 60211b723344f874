-- The rows of the stations of the ranks so far.
use Rattle.std.proofs.Common.{◌≡◌, map}
use Rattle.std.specs.List.{flat_map, range_with_len}
use Rattle.ssim_overview.specs.internal.SaidRows.{rank_rows}
use Rattle.ssim_overview.proofs.said_table.said_rows.Given as goal

abbrev pub invariant-loop-rank : goal.invariant-loop-rank
invariant-loop-rank l =
    l.rows.items
    ≡ flat_map (rank_rows (map (λ list. list.items) l.sayings.items)) (range_with_len 0 l.rank)
