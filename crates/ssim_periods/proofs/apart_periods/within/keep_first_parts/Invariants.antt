-- The entries from the place on are done.
use Rattle.std.proofs.Common.{◌≡◌, ◌≤◌, List, ◌++◌, length, take, drop, vec_len}
use Rattle.ssim_values.specs.Period.{DayRange}
use Rattle.ssim_periods.specs.internal.Parts.{kept_parts}
use Rattle.ssim_periods.proofs.apart_periods.within.keep_first_parts.Given as goal

abbrev pub invariant-loop-place : goal.invariant-loop-place
invariant-loop-place g l = record {
  in_range : l.place ≤ l.count;
  within : l.place ≤ vec_len l.entries;
  parts : (first added : List (DayRange × g.row.V.Denot)) → l.fn.entries.items ≡ first ++ added → length first ≡ l.count → l.entries.items ≡ take l.place first ++ (kept_parts l.period (drop l.place first) ++ added);
}

abbrev pub decreases-loop-place : goal.decreases-loop-place
decreases-loop-place g l = l.place
