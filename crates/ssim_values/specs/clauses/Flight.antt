-- The order of flights.
use Rattle.std.specs.Prelude.{ℕ, List, [], ◌∷◌}
use Rattle.ssim_values.specs.Flight.{FlightNumber}

-- the list by which flights are ordered: by number first, then by suffix
abbrev pub flight_order : FlightNumber → List ℕ
flight_order f = f.number ∷ f.suffix ∷ []
