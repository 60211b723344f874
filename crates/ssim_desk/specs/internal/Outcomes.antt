-- What messages find and leave of the flights that are made.
use Rattle.std.specs.Prelude.{◌≡◌, List}
use Rattle.ssim_periods.specs.Days.{each_day}
use Rattle.ssim_values.specs.Flight.{FlightNumber}
use Rattle.ssim_base.specs.{BaseSeen.BaseSeen, Timetable.Days}
use Rattle.ssim_base.specs.clauses.Timetable.{itinerary_among}
use Rattle.ssim_schedule.specs.FlightPieces.{divided_flights}
use Rattle.ssim_held.specs.Entries.{Entry}
use Rattle.ssim_desk.specs.Desk.{entry_lines}
use Rattle.ssim_desk.specs.Meaning.{Timetable, after_entries, entries_findings}
use Rattle.ssim_desk.specs.declared.outcome.Outcome.{Outcome}

-- the timetable of these flights of a base alone
abbrev pub timetable_among : BaseSeen → List FlightNumber → Timetable
timetable_among base flights = itinerary_among flights base.records

-- what messages leave of it, on each day
abbrev pub days_among : BaseSeen → List FlightNumber → List Entry → FlightNumber → Days
days_among base flights entries flight =
    each_day (after_entries base.rows entries (timetable_among base flights) flight)

-- what messages find and leave of these flights
pub record IsOutcome (base : BaseSeen) (flights : List FlightNumber) (entries : List Entry)
    (made : Outcome) : Type 0 where
  pub lines_are : made.lines.items
      ≡ entry_lines entries (entries_findings base.rows entries (timetable_among base flights))
  pub flights_are : made.flights.items ≡ divided_flights (days_among base flights entries)
