-- As many flights as were counted, and no leg record more.
use Rattle.std.proofs.Common.{◌≡◌, ℕ, length}
use Rattle.ssim_base.specs.internal.LegTable.{legs_in}
use Rattle.ssim_base.proofs.leg_table.push_missing.Given as goal

abbrev pub invariant-loop : goal.invariant-loop
invariant-loop l = record {
  long : length l.flights.items ≡ l.counter;
  same : (k : ℕ) → legs_in l.flights.items k ≡ legs_in l.fn.flights.items k;
}
