-- The lines of the pieces so far were added.
use Rattle.std.proofs.Common.{◌≡◌, ◌++◌, take}
use Rattle.std.specs.List.{flat_map}
use Rattle.ssim_page.specs.Flight.{piece_line}
use Rattle.ssim_page.proofs.flight.push_periods.Given as goal

abbrev pub invariant-loop-piece : goal.invariant-loop-piece
invariant-loop-piece l =
    l.page.items ≡ l.initial.page.items ++ flat_map (piece_line l.found) (take l.piece-index l.pieces)
