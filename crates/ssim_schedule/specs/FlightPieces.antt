-- The flights of a timetable with their pieces, as an export has them, but without its limits.
use Rattle.std.specs.Prelude.{◌≡◌, ℕ, Bool, nat_lt, List, map, length, filter}
use Rattle.std.specs.List.{flat_map}
use Rattle.ssim_values.specs.Flight.{FlightNumber}
use Rattle.ssim_base.specs.Timetable.{Days, is_among}
use Rattle.ssim_base.specs.Export.{Piece, all_flights, flights_records, pieces, pieces_records}

-- a flight and its pieces
abbrev pub Divided : Type 0
Divided = FlightNumber × List Piece

-- a flight with the pieces of its days
abbrev pub divided : (FlightNumber → Days) → FlightNumber → Divided
divided days flight = (flight, pieces (days flight))

-- whether the flight flies on some date
abbrev pub flies : Divided → Bool
flies flight = nat_lt 0 (length flight.1)

-- the flights that fly on some date, by number and then by suffix, each with its pieces
abbrev pub divided_flights : (FlightNumber → Days) → List Divided
divided_flights days = filter flies (map (divided days) all_flights)

-- the flights that are in a list, by number and then by suffix, each once
abbrev pub in_order : List FlightNumber → List FlightNumber
in_order flights = filter (is_among flights) all_flights

-- the flights that are in a list, by number and then by suffix, each once with its pieces; a flight
-- that flies on no date has none
abbrev pub divided_among : List FlightNumber → (FlightNumber → Days) → List Divided
divided_among flights days = map (divided days) (in_order flights)

-- The law of listed flights: the records of an export, before they are numbered, are those of these
-- flights with these pieces, one after another.
abbrev pub AreExported : Type 0
AreExported = (airline : List ℕ) (days : FlightNumber → Days)
    → flights_records airline days all_flights
    ≡ flat_map (λ flight. pieces_records airline flight.0 1 flight.1) (divided_flights days)
