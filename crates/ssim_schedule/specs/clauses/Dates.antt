-- Timetables of some dates.
use Rattle.std.specs.Prelude.{◌≡◌, ℕ, ◌≤◌, ◌&&◌, nat_le, if◌then◌else◌, List, []}
use Rattle.ssim_values.specs.Flight.{FlightNumber}
use Rattle.ssim_records.specs.declared.record.Record.{Record}
use Rattle.ssim_base.specs.Timetable.{Days, Legs, itinerary, on_day}

-- the itinerary of a flight on a day from a first date to a last; no legs on any other day
abbrev pub itinerary_between : ℕ → ℕ → List Record → FlightNumber → ℕ → Legs
itinerary_between first last records flight day =
    if nat_le first day && nat_le day last then itinerary records flight day else []

-- each flight has the same in both timetables on each day from a first date to a last
abbrev pub AgreeBetween : ℕ → ℕ → (FlightNumber → Days) → (FlightNumber → Days) → Type 0
AgreeBetween first last one other = (flight : FlightNumber) (day : ℕ) → first ≤ day → day ≤ last
    → on_day (one flight) day ≡ on_day (other flight) day
