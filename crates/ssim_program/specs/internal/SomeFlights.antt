-- Timetables that agree at some flights.
use Rattle.std.specs.Prelude.{◌≡◌, true, List}
use Rattle.ssim_periods.specs.Days.{each_day}
use Rattle.ssim_values.specs.Flight.{FlightNumber, IsFlight}
use Rattle.ssim_base.specs.Timetable.{is_among}
use Rattle.ssim_schedule.specs.clauses.Schedule.{Flown, days_in}
use Rattle.ssim_desk.specs.Meaning.{Timetable}

-- the schedule has this timetable
abbrev pub Shows : Flown → Timetable → Type 0
Shows schedule timetable =
    (g : FlightNumber) → IsFlight g → days_in schedule g ≡ each_day (timetable g)

-- the timetables agree at each of these flights
abbrev pub AgreeAt : List FlightNumber → Timetable → Timetable → Type 0
AgreeAt flights one other = (g : FlightNumber) → is_among flights g ≡ true → one g ≡ other g
