use Rattle.std.proofs.Common.{◌≡◌, ℕ, ◌<◌, ◌≤◌, false, slice_index_or}
use Rattle.ssim_values.specs.Calendar.{slot}
use Rattle.ssim_periods.proofs.cover.trim.first_in.Given as goal

abbrev pub invariant-loop-day : goal.invariant-loop-day
invariant-loop-day l = (n : ℕ) → l.from ≤ n → n < l.day → slice_index_or l.days (slot n) false ≡ false
