-- As many lists as were counted, and no flight more.
use Rattle.std.proofs.Common.{◌≡◌, ℕ, length, slice_get}
use Rattle.ssim_base.specs.internal.LegTable.{flights_of}
use Rattle.ssim_base.proofs.leg_table.push_numbers.Given as goal

abbrev pub invariant-loop : goal.invariant-loop
invariant-loop l = record {
  long : length l.numbers.items ≡ l.counter;
  same : (k : ℕ) → flights_of (slice_get l.numbers.items k) ≡ flights_of (slice_get l.fn.numbers.items k);
}
