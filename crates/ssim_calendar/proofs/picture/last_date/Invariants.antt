-- No day from this one on has a letter.
use Rattle.std.proofs.Common.{◌≡◌, ◌<◌, ◌≤◌, ℕ, false, length}
use Rattle.ssim_calendar.specs.Picture.{has_letter}
use Rattle.ssim_calendar.proofs.picture.last_date.Given as goal

abbrev pub invariant-loop-day : goal.invariant-loop-day
invariant-loop-day l = record {
  within : l.day ≤ length l.cells;
  none : (m : ℕ) → l.day ≤ m → m < length l.cells → has_letter l.cells m ≡ false;
}

abbrev pub decreases-loop-day : goal.decreases-loop-day
decreases-loop-day l = l.day
