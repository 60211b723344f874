use Rattle.std.proofs.Common.{◌≡◌, ◌<◌, ◌≤◌, ℕ, false, slice_index_or}
use Rattle.ssim_values.specs.Calendar.{slot}
use Rattle.ssim_periods.proofs.cover.last_in.Given as goal

abbrev pub invariant-loop-day : goal.invariant-loop-day
invariant-loop-day l = record {
  from : l.first ≤ l.day;
  to : l.day < l.after;
  later : (m : ℕ) → l.day < m → m < l.after → slice_index_or l.days (slot m) false ≡ false;
}

abbrev pub decreases-loop-day : goal.decreases-loop-day
decreases-loop-day l = l.day
