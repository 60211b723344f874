-- The elements that were moved, and behind them the list as it was.
use Rattle.std.proofs.Common.{◌≡◌, ◌++◌, length, take, drop}
use Rattle.ssim_periods.proofs.apart_periods.spaced_days.put_at.Given as goal

abbrev pub invariant-loop-moved : goal.invariant-loop-moved
invariant-loop-moved l = record {
  size : length l.items.items ≡ length l.fn.items.items;
  moved : drop l.start l.items.items ≡ take l.moved (drop l.front l.fn.items.items) ++ drop l.moved (drop l.start l.fn.items.items);
}
