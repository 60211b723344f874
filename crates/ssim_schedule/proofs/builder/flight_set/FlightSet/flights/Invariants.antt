-- The flights so far are the marked ones of those places.
use Rattle.std.proofs.Common.{◌≡◌, map}
use Rattle.std.specs.List.{filter, range_with_len}
use Rattle.ssim_base.specs.Export.{flight_at}
use Rattle.ssim_schedule.specs.internal.FlightSet.{is_marked}
use Rattle.ssim_schedule.proofs.builder.flight_set.FlightSet.flights.Given as goal

abbrev pub invariant-loop-place : goal.invariant-loop-place
invariant-loop-place l = l.flights.items ≡ filter (is_marked l.self.marks.items) (map flight_at (range_with_len 0 l.place))
