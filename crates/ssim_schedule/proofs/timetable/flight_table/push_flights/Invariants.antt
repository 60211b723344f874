-- The flights of the entries so far.
use Rattle.std.proofs.Common.{◌≡◌, ◌++◌, map, take}
use Rattle.std.specs.List.{All}
use Rattle.ssim_values.specs.Flight.{IsFlight}
use Rattle.ssim_schedule.proofs.timetable.flight_table.push_flights.Given as goal

abbrev pub invariant-loop-entry : goal.invariant-loop-entry
invariant-loop-entry l = record {
  flights : l.flights.items
      ≡ l.initial.flights.items ++ map (λ f. f.flight) (take l.entry-index l.entries);
  exist : All IsFlight l.initial.flights.items → All IsFlight l.flights.items;
}
