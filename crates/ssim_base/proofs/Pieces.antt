-- The law of pieces at itineraries, whose test is equality.
use Rattle.std.proofs.Common.{◌≡◌, ℕ, true, nat_eq, List, [], refl, arith}
use Rattle.std.proofs.lemmas.Bool.Decides.{nat_tests}
use Rattle.std.proofs.lemmas.Slice.Eq.{bytes_eq-Decides}
use Rattle.std.specs.Str.{bytes_eq}
use Rattle.ssim_periods.specs.Pieces.{ArePieces}
use Rattle.ssim_periods.proofs.PieceLaw.{pieces_law}
use Rattle.ssim_base.specs.Timetable.{Days}
use Rattle.ssim_base.specs.Export.{same_itinerary, pieces}
use Rattle.ssim_base.specs.clauses.ItineraryLaws.{exact_itinerary}

pub bytes-self : (xs : List ℕ) → bytes_eq xs xs ≡ true
bytes-self xs = (bytes_eq-Decides xs xs).1 refl

pub eq-self : (n : ℕ) → nat_eq n n ≡ true
eq-self n = grind (arith, nat_tests)

-- on each day exactly one piece holds, or none if there is no flight
pub itinerary_pieces : (days : Days) → ArePieces same_itinerary [] days (pieces days)
itinerary_pieces days = pieces_law same_itinerary [] exact_itinerary days
