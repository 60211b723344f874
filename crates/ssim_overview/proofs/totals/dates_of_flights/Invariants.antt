-- The dates of the flights so far, if they fit.
use Rattle.std.proofs.Common.{◌≡◌, ◌<◌, ◌^◌, take}
use Rattle.ssim_overview.specs.internal.Totals.{dates_of_flights}
use Rattle.ssim_overview.proofs.totals.dates_of_flights.Given as goal

abbrev pub invariant-loop-flight : goal.invariant-loop-flight
invariant-loop-flight l = dates_of_flights (take l.flight-index l.flights) < 2 ^ 64
    → l.count ≡ dates_of_flights (take l.flight-index l.flights)
