use Rattle.std.proofs.Common.{◌≡◌, ◌-◌, ◌<◌, ◌≤◌, ℕ, false}
use Rattle.ssim_periods.specs.Cover.{breaks}
use Rattle.ssim_periods.specs.Pieces.{has_value}
use Rattle.ssim_periods.specs.internal.Rows.{place}
use Rattle.ssim_periods.proofs.range_rows.RangeRows.first_unlike.Given as goal

abbrev pub invariant-loop-day : goal.invariant-loop-day
invariant-loop-day g l = record {
  from : l.from ≤ l.day;
  to : l.day ≤ 36525;
  at : l.day < 36525 → l.place ≡ place l.self.cuts l.day;
  passed : (m : ℕ) → l.from ≤ m → m < l.day → breaks (has_value g.V.Value.alike l.self.days l.value) l.days m ≡ false;
}

abbrev pub decreases-loop-day : goal.decreases-loop-day
decreases-loop-day g l = 36525 - l.day
