use Rattle.std.proofs.Common.{◌≡◌, ◌++◌, drop, length, IfSome}
use Rattle.ssim_periods.specs.internal.Count.{with_days}
use Rattle.ssim_periods.specs.internal.Splits.{patch_of}
use Rattle.ssim_periods.proofs.range_rows.patches.new_row.Given as goal

abbrev pub invariant-loop-weekday : goal.invariant-loop-weekday
invariant-loop-weekday g l = record {
  week : length l.row ≡ 7;
  latest : IfSome l.latest (λ made. made.1 ≡ g.C.Change.outcome l.change made.0.now);
  told : l.patch.items ++ patch_of (drop l.weekday (with_days 0 l.mask l.from l.to)) (g.C.Change.outcome l.change) (drop l.weekday l.row) ≡ patch_of (with_days 0 l.mask l.from l.to) (g.C.Change.outcome l.change) l.row;
}
