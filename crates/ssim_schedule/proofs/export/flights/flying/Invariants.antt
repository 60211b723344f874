-- The flights so far, and those of the flights that are left that fly, are those that fly.
use Rattle.std.proofs.Common.{◌≡◌, ◌++◌, length}
use Rattle.std.specs.List.{filter}
use Rattle.std.specs.Vec.Iter.{into_iter_items, into_iter_len}
use Rattle.ssim_schedule.specs.FlightPieces.{flies}
use Rattle.ssim_schedule.proofs.export.flights.flying.Given as goal

abbrev pub invariant-loop-flight : goal.invariant-loop-flight
invariant-loop-flight l = record {
  flying : l.flights.items ++ filter flies (into_iter_items l.flight-iterator) ≡ filter flies l.fn.plan.items;
  left : into_iter_len l.flight-iterator ≡ length (into_iter_items l.flight-iterator);
}
