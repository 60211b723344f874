-- The itinerary of a flight among some records.
use Rattle.std.specs.Prelude.{ℕ, if◌then◌else◌, List, []}
use Rattle.ssim_values.specs.Flight.{FlightNumber}
use Rattle.ssim_records.specs.declared.record.Record.{Record}
use Rattle.ssim_base.specs.Timetable.{Legs, itinerary, is_among}

-- the itinerary of a flight on a day if the flight is in the list; else no legs
abbrev pub itinerary_among : List FlightNumber → List Record → FlightNumber → ℕ → Legs
itinerary_among flights records flight day =
    if is_among flights flight then itinerary records flight day else []
