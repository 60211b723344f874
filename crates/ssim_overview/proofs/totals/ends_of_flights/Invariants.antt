-- The ends after the flights so far.
use Rattle.std.proofs.Common.{◌≡◌, take}
use Rattle.ssim_overview.specs.internal.Totals.{ends_of_flights}
use Rattle.ssim_overview.proofs.totals.ends_of_flights.Given as goal

abbrev pub invariant-loop-flight : goal.invariant-loop-flight
invariant-loop-flight l = l.ends ≡ ends_of_flights (take l.flight-index l.flights)
