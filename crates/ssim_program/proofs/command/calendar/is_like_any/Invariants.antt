-- No leg of the itineraries so far is like the leg.
use Rattle.std.proofs.Common.{◌≡◌, false, take}
use Rattle.std.specs.List.{list_any}
use Rattle.ssim_listing.specs.Marks.{is_like_one}
use Rattle.ssim_program.proofs.command.calendar.is_like_any.Given as goal

abbrev pub invariant-loop-itinerary : goal.invariant-loop-itinerary
invariant-loop-itinerary l =
    list_any (λ legs. is_like_one legs l.leg) (take l.itinerary-index l.itineraries) ≡ false
