use Rattle.std.proofs.Common.{◌≡◌, ℕ, ◌<◌, false, nat_lt, ◌&&◌, if◌then◌else◌, length, slice_index_or}
use Rattle.ssim_periods.proofs.apart_periods.marks.marked.Given as goal

abbrev pub invariant-loop-weekday : goal.invariant-loop-weekday
invariant-loop-weekday l = record {
  week : length l.row ≡ 7;
  size : length l.marked ≡ 7;
  done : (s : ℕ) → s < 7 → slice_index_or l.marked s 0 ≡ (if nat_lt s l.weekday && slice_index_or l.mask s false then 1 else slice_index_or l.row s 0);
}
