-- The calendars of the flights so far.
use Rattle.std.proofs.Common.{◌≡◌, map, take}
use Rattle.ssim_schedule.specs.clauses.Schedule.{days_in}
use Rattle.ssim_program.specs.print.Calendar.{flight_calendar}
use Rattle.ssim_program.proofs.command.calendar.calendars_of.Given as goal

abbrev pub invariant-loop-flight : goal.invariant-loop-flight
invariant-loop-flight l =
    map (λ lines. lines.items) l.calendars.items
    ≡ map (flight_calendar l.airline (days_in l.schedule)) (take l.flight-index l.flights)
