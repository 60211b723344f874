-- At the flights the schedule is the one after the messages so far.
use Rattle.std.proofs.Common.{List, take}
use Rattle.ssim_values.specs.Flight.{FlightNumber}
use Rattle.ssim_schedule.specs.clauses.Schedule.{Flown}
use Rattle.ssim_base.specs.Stations.{Row}
use Rattle.ssim_held.specs.Entries.{Entry}
use Rattle.ssim_desk.specs.Meaning.{Timetable, after_entries}
use Rattle.ssim_program.specs.internal.SomeFlights.{AgreeAt, Shows}
use Rattle.ssim_program.proofs.some_flights.act_on.Given as goal

abbrev pub HaveActedOn : List Row → List Entry → List FlightNumber → Timetable → Flown → Type 0
HaveActedOn rows messages flights before now =
    (after : Timetable) × Shows now after
    × AgreeAt flights after (after_entries rows messages before)

abbrev pub invariant-loop-held : goal.invariant-loop-held
invariant-loop-held l =
    (before : Timetable) → Shows l.initial.schedule before
    → HaveActedOn l.rows (take l.held-index l.messages) l.flights before l.schedule
