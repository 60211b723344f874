-- The periods from the place on are covered one after another, and hold no day before the next one.
use Rattle.std.proofs.Common.{◌≡◌, ℕ, ◌<◌, ◌≤◌, false, length, drop}
use Rattle.std.specs.List.{flat_map}
use Rattle.ssim_periods.specs.Calendar.{day_count}
use Rattle.ssim_periods.specs.Cover.{cover}
use Rattle.ssim_periods.specs.internal.Apart.{is_held}
use Rattle.ssim_periods.proofs.SeparateLemmas.{each_cover}
use Rattle.ssim_periods.proofs.cover.separate.are_separate.Given as goal

abbrev pub invariant-loop-place : goal.invariant-loop-place
invariant-loop-place l = record {
  within : l.place ≤ length l.periods;
  in_calendar : l.next ≤ 36525;
  none : (n : ℕ) → n < l.next → is_held (drop l.place l.periods) n ≡ false;
  separate : cover (is_held (drop l.place l.periods)) day_count ≡ flat_map each_cover (drop l.place l.periods);
}

abbrev pub decreases-loop-place : goal.decreases-loop-place
decreases-loop-place l = l.place
