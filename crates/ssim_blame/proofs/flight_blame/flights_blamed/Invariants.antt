-- The flights so far have their pieces.
use Rattle.std.proofs.Common.{◌≡◌, map, take}
use Rattle.ssim_blame.specs.Makers.{blamed}
use Rattle.ssim_blame.proofs.flight_blame.flights_blamed.Given as goal

abbrev pub invariant-loop-flight : goal.invariant-loop-flight
invariant-loop-flight l =
    l.found.items ≡ map (blamed l.desk) (take l.flight-index l.flights)
