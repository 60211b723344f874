-- The rows of the flights so far.
use Rattle.std.proofs.Common.{◌≡◌, ◌++◌, take}
use Rattle.std.specs.List.{flat_map}
use Rattle.ssim_base.specs.Timetable.{itinerary}
use Rattle.ssim_desk.specs.DateSteps.{steps_on}
use Rattle.ssim_listing.specs.Rows.{row}
use Rattle.ssim_program.specs.print.HistoryRows.{history_names, history_rows_on}
use Rattle.ssim_program.proofs.command.history.rows_of.Given as goal

abbrev pub invariant-loop-flight : goal.invariant-loop-flight
invariant-loop-flight l =
    l.rows ≡ row history_names
    ++ flat_map (history_rows_on l.airline (itinerary l.desk.base.records) (steps_on l.desk) l.day)
    (take l.flight-index l.flights)
