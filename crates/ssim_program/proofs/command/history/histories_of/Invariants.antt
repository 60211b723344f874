-- The flights so far.
use Rattle.std.proofs.Common.{◌≡◌, map, take}
use Rattle.ssim_base.specs.Timetable.{itinerary}
use Rattle.ssim_desk.specs.DateSteps.{steps_on}
use Rattle.ssim_program.specs.print.Shown.{history_on}
use Rattle.ssim_program.proofs.command.history.histories_of.Given as goal

abbrev pub invariant-loop-flight : goal.invariant-loop-flight
invariant-loop-flight l =
    map (λ lines. lines.items) l.histories.items
    ≡ map (history_on l.airline (itinerary l.desk.base.records) (steps_on l.desk) l.day)
    (take l.flight-index l.flights)
