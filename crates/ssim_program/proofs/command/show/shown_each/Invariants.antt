-- The flights so far.
use Rattle.std.proofs.Common.{◌≡◌, map, take}
use Rattle.ssim_base.specs.Timetable.{on_day}
use Rattle.ssim_schedule.specs.clauses.Schedule.{days_in}
use Rattle.ssim_program.specs.print.Shown.{shown_on}
use Rattle.ssim_program.proofs.command.show.shown_each.Given as goal

abbrev pub invariant-loop-flight : goal.invariant-loop-flight
invariant-loop-flight l =
    map (λ lines. lines.items) l.shown.items
    ≡ map (shown_on l.airline (λ g n. on_day (days_in l.schedule g) n) l.day)
    (take l.flight-index l.flights)
