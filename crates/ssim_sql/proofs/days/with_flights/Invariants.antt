-- The days after the values so far.
use Rattle.std.proofs.Common.{◌≡◌, take}
use Rattle.ssim_sql.specs.DayRows.{with_flights}
use Rattle.ssim_sql.proofs.days.with_flights.Given as goal

abbrev pub invariant-loop-flight : goal.invariant-loop-flight
invariant-loop-flight l = l.days ≡ with_flights l.initial.days (take l.flight-index l.flights)
