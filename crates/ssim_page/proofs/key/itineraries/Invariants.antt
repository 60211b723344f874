-- The different itineraries of the pieces so far were added.
use Rattle.std.proofs.Common.{◌≡◌, [], map}
use Rattle.ssim_base.specs.Export.{same_itinerary}
use Rattle.ssim_calendar.specs.Letters.{new_values}
use Rattle.ssim_page.proofs.key.itineraries.Given as goal

abbrev pub invariant-loop-piece : goal.invariant-loop-piece
invariant-loop-piece l =
    l.found ≡ new_values same_itinerary [] (map (λ piece. piece.1) l.pieces) l.piece-index
