use Rattle.std.proofs.Common.{◌≡◌, ◌-◌, ◌<◌, ◌≤◌, ℕ, length, slice_index_or}
use Rattle.ssim_periods.specs.internal.Rows.{place}
use Rattle.ssim_periods.specs.internal.Count.{tally, is_of_class}
use Rattle.ssim_periods.proofs.range_rows.count.class_counts.Given as goal

abbrev pub invariant-loop-day : goal.invariant-loop-day
invariant-loop-day g l =
    let t = is_of_class g.V.Value.nothing (g.C.Change.class_of l.change) l.before l.cuts l.rows l.first l.last l.mask in
    record {
      from : l.first ≤ l.day;
      to : l.day ≤ l.end;
      at : l.day < l.end → l.place ≡ place l.cuts l.day;
      classes : length l.counts ≡ 5;
      counted : (k : ℕ) → k < 5 → slice_index_or l.counts k 0 ≡ tally (t k) l.first (l.day - l.first);
    }

abbrev pub decreases-loop-day : goal.decreases-loop-day
decreases-loop-day g l = l.end - l.day
