use Rattle.std.proofs.Common.{◌≡◌, ◌+◌, ◌<◌, ℕ, length, slice_index_or}
use Rattle.ssim_periods.specs.internal.Count.{weigh, is_counted}
use Rattle.ssim_periods.proofs.range_rows.count.count_range.Given as goal

abbrev pub invariant-loop-weekday : goal.invariant-loop-weekday
invariant-loop-weekday g l =
    let t = is_counted g.V.Value.nothing l.mask (g.C.Change.class_of l.change) l.row in
    record {
      classes : length l.counts ≡ 5;
      week : length l.row ≡ 7;
      counted : (k : ℕ) → k < 5 → slice_index_or l.counts k 0 + weigh (t k) l.weekday l.from ≡ slice_index_or l.fn.counts k 0 + weigh (t k) l.weekday l.to;
    }
