use Rattle.std.proofs.Common.{◌≡◌, ◌⊎◌, ◌+◌, ◌<◌, ◌≤◌, ℕ, false, length, slice_index_or}
use Rattle.ssim_values.specs.Calendar.{slot}
use Rattle.ssim_periods.specs.Cover.{differ}
use Rattle.ssim_periods.proofs.cover.unlike_in_row.Given as goal

abbrev pub invariant-loop-day : goal.invariant-loop-day
invariant-loop-day g l = record {
  week : length l.row ≡ 7;
  within : l.week ≤ l.to;
  enough : (l.from + 7 ≡ l.week) ⊎ (l.week ≡ l.to);
  passed : (m : ℕ) → l.from ≤ m → m < l.day → differ (g.V.Value.alike l.value (slice_index_or l.row (slot m) g.V.Value.nothing)) (slice_index_or l.days (slot m) false) ≡ false;
}
