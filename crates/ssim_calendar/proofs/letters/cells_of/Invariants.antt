-- The letters of the days so far.
use Rattle.std.proofs.Common.{◌≡◌, map, slice_index_or}
use Rattle.std.specs.List.{range_with_len}
use Rattle.ssim_calendar.specs.Letters.{cell}
use Rattle.ssim_calendar.proofs.letters.cells_of.Given as goal

abbrev pub invariant-loop-number : goal.invariant-loop-number
invariant-loop-number g l =
    l.cells.items ≡ map (λ n. cell g.V.Value.alike g.V.Value.nothing l.values (slice_index_or l.days.days n g.V.Value.nothing)) (range_with_len 0 l.number)
