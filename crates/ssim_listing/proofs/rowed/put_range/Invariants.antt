-- What was added so far, and the rows at the numbers that are left, are all rows.
use Rattle.std.proofs.Common.{◌≡◌, ◌-◌, ◌++◌}
use Rattle.std.specs.List.{flat_map, range_with_len}
use Rattle.ssim_listing.proofs.rowed.put_range.Given as goal

abbrev pub invariant-loop-number : goal.invariant-loop-number
invariant-loop-number g l =
    let text = g.T.RowedAt.text l.rowed in
    l.rows ++ flat_map text (range_with_len l.number (l.end - l.number))
    ≡ l.initial.rows ++ flat_map text (range_with_len l.from (l.end - l.from))
