use Rattle.std.proofs.Common.{◌≡◌, ◌≤◌, length, take}
use Rattle.ssim_periods.specs.internal.Apart.{value_in}
use Rattle.ssim_periods.proofs.apart_periods.entries.value_at.Given as goal

abbrev pub invariant-loop-place : goal.invariant-loop-place
invariant-loop-place g l = record {
  within : l.place ≤ length l.entries;
  later : value_in l.empty l.entries l.day ≡ value_in l.empty (take l.place l.entries) l.day;
}

abbrev pub decreases-loop-place : goal.decreases-loop-place
decreases-loop-place g l = l.place
