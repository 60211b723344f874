use Rattle.std.proofs.Common.{◌≡◌, ℕ, ◌<◌, ◌≤◌, ◌&&◌, false, slice_index_or}
use Rattle.ssim_values.specs.Calendar.{slot}
use Rattle.ssim_periods.proofs.common_days.meet_on_a_weekday.Given as goal

abbrev pub invariant-loop-weekday : goal.invariant-loop-weekday
invariant-loop-weekday l =
    (n : ℕ) → l.first ≤ n → n ≤ l.last → slot n < l.weekday → (slice_index_or l.days (slot n) false && slice_index_or l.other_days (slot n) false) ≡ false
