-- The flights of the blocks so far.
use Rattle.std.proofs.Common.{◌≡◌, map, take}
use Rattle.std.specs.List.{All}
use Rattle.ssim_values.specs.Flight.{IsFlight}
use Rattle.ssim_schedule.specs.internal.Blocks.{all_entries}
use Rattle.ssim_schedule.proofs.timetable.flight_table.flights_of.Given as goal

abbrev pub invariant-loop-block : goal.invariant-loop-block
invariant-loop-block l = record {
  flights : l.flights.items ≡ map (λ f. f.flight) (all_entries (take l.block-index l.blocks));
  exist : All IsFlight l.flights.items;
}
