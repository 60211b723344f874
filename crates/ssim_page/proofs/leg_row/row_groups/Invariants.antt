-- The groups of the legs of the itineraries so far.
use Rattle.std.proofs.Common.{◌≡◌, ℕ, List, map, take}
use Rattle.ssim_listing.specs.clauses.Groups.{group_in, group_of}
use Rattle.ssim_page.specs.Flight.{all_legs}
use Rattle.ssim_page.specs.LegRow.{leg_row}
use Rattle.ssim_page.proofs.leg_row.row_groups.Given as goal

abbrev pub invariant-loop-itinerary : goal.invariant-loop-itinerary
invariant-loop-itinerary l =
    (row : List ℕ) → group_in l.groups row ≡ group_of leg_row
    (all_legs (map (λ legs. legs.now) (take l.itinerary-index l.itineraries))) row
