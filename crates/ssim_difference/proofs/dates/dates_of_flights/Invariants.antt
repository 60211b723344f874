-- The dates of the flights so far, if they fit.
use Rattle.std.proofs.Common.{◌≡◌, ◌<◌, ◌^◌, take}
use Rattle.ssim_difference.specs.internal.Counted.{all_dates}
use Rattle.ssim_difference.proofs.dates.dates_of_flights.Given as goal

abbrev pub invariant-loop-flight : goal.invariant-loop-flight
invariant-loop-flight l = all_dates (take l.flight-index l.flights) < 2 ^ 64
    → l.count ≡ all_dates (take l.flight-index l.flights)
