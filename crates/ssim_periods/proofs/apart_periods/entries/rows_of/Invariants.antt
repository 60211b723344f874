-- The rows have the values of the entries from the place on, and no cut that divides none of them.
use Rattle.std.proofs.Common.{◌≡◌, ◌≤◌, ℕ, List, length, drop}
use Rattle.std.specs.List.{Contains}
use Rattle.ssim_periods.specs.internal.Apart.{value_in, AreDivided}
use Rattle.ssim_periods.specs.Days.{each_day}
use Rattle.ssim_periods.proofs.apart_periods.entries.rows_of.Given as goal

abbrev pub invariant-loop-place : goal.invariant-loop-place
invariant-loop-place g l = record {
  within : l.place ≤ length l.entries;
  days : l.rows.days ≡ each_day (value_in g.V.Value.nothing (drop l.place l.entries));
  cuts : (cuts : List ℕ) → AreDivided cuts l.entries → (cut : ℕ) → Contains l.rows.cuts cut → Contains cuts cut;
}

abbrev pub decreases-loop-place : goal.decreases-loop-place
decreases-loop-place g l = l.place
