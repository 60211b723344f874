-- The entries from the place on are counted.
use Rattle.std.proofs.Common.{◌≡◌, ◌<◌, ◌≤◌, ℕ, nat_eq, length, drop, slice_index_or}
use Rattle.ssim_periods.specs.Calendar.{day_count, holds}
use Rattle.ssim_periods.specs.internal.Count.{tally}
use Rattle.ssim_periods.specs.internal.Parts.{any_value, finds}
use Rattle.ssim_periods.proofs.apart_periods.within.count_held.Given as goal

abbrev pub invariant-loop-place : goal.invariant-loop-place
invariant-loop-place g l = record {
  within : l.place ≤ length l.entries;
  five : length l.counts ≡ 5;
  counts : (k : ℕ) → k < 5 → slice_index_or l.counts k 0 ≡ tally (finds (holds l.period) (λ v. nat_eq (g.C.Change.class_of l.fn.change v) k) (drop l.place l.entries)) 0 day_count;
  held : l.held ≡ tally (finds (holds l.period) any_value (drop l.place l.entries)) 0 day_count;
}

abbrev pub decreases-loop-place : goal.decreases-loop-place
decreases-loop-place g l = l.place
