-- The flights so far and those that are left are all that were left.
use Rattle.std.proofs.Common.{◌≡◌, ℕ, ◌+◌, ◌*◌, ◌<◌, ◌++◌, Bool}
use Rattle.ssim_base.specs.internal.LegTable.{flights_left, has_legs, legs_in}
use Rattle.ssim_base.proofs.leg_table.push_flights.Given as goal

abbrev pub invariant-loop-suffix : goal.invariant-loop-suffix
invariant-loop-suffix l =
    (has : ℕ → Bool) → ((suffix : ℕ) → suffix < 27 → has (27 * l.number + suffix) ≡ has_legs (legs_in l.flights suffix))
    → l.all.items ++ flights_left has (27 * l.number + l.suffix) ≡ l.fn.all.items ++ flights_left has (27 * l.number)
