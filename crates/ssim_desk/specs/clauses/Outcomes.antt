-- What messages find and leave before a change of what a desk holds, and after it.
use Rattle.std.specs.Prelude.{◌≡◌, ◌⊎◌, List}
use Rattle.ssim_periods.specs.Days.{each_day}
use Rattle.ssim_values.specs.Flight.{FlightNumber, IsFlight}
use Rattle.ssim_base.specs.{BaseSeen.BaseSeen, Timetable.Days}
use Rattle.ssim_schedule.specs.FlightPieces.{divided_flights}
use Rattle.ssim_held.specs.Entries.{Entry}
use Rattle.ssim_desk.specs.Desk.{entry_lines}
use Rattle.ssim_desk.specs.Meaning.{found_by, left_by}
use Rattle.ssim_desk.specs.declared.outcome.Outcomes.{Outcomes}

-- what these messages leave of a flight on each day
abbrev pub days_left : BaseSeen → List Entry → FlightNumber → Days
days_left base entries flight = each_day (left_by base entries flight)

-- An old and a new itinerary of a flight on each day differ as two others do: they are the same two,
-- or neither two differ.
abbrev pub DifferAs : Days → Days → Days → Days → Type 0
DifferAs old new first last = ((old ≡ first) × (new ≡ last)) ⊎ ((old ≡ new) × (first ≡ last))

-- The lines are those of all sub-messages. The flights are those of two timetables that differ, on
-- each flight, as those do that the messages leave.
pub record AreOutcomes (base : BaseSeen) (before after : List Entry)
    (made : Outcomes) : Type 0 where
  pub old_lines : made.before.lines.items ≡ entry_lines before (found_by base before)
  pub new_lines : made.after.lines.items ≡ entry_lines after (found_by base after)
  pub old : FlightNumber → Days
  pub new : FlightNumber → Days
  pub old_flights : made.before.flights.items ≡ divided_flights old
  pub new_flights : made.after.flights.items ≡ divided_flights new
  pub differ : (flight : FlightNumber) → IsFlight flight
      → DifferAs (old flight) (new flight) (days_left base before flight)
      (days_left base after flight)
