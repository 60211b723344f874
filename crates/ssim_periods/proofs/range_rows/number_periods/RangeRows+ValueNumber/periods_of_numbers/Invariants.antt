-- The lists have the days before the current one.
use Rattle.std.proofs.Common.{◌≡◌, ◌-◌, ◌<◌, ◌≤◌, length, map, slice_index_or}
use Rattle.ssim_periods.specs.internal.Numbers.{HaveDays}
use Rattle.ssim_periods.specs.internal.Rows.{place}
use Rattle.ssim_periods.proofs.range_rows.number_periods.RangeRows+ValueNumber.periods_of_numbers.Given as goal

abbrev pub invariant-loop-day : goal.invariant-loop-day
invariant-loop-day l = record {
  to : l.day ≤ 36525;
  at : l.day < 36525 → l.place ≡ place l.self.cuts l.day;
  count : length l.lists.items ≡ l.count;
  have : HaveDays (λ n. slice_index_or l.self.days n 0) l.day (map (λ list. list.items) l.lists.items);
}

abbrev pub decreases-loop-day : goal.decreases-loop-day
decreases-loop-day l = 36525 - l.day
