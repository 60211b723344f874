-- All ends at the places so far, and the first ends at the others.
use Rattle.std.proofs.Common.{◌≡◌, ◌<◌, ℕ, ◌-◌, length, slice_index_or}
use Rattle.ssim_overview.specs.internal.HeldEnds.{latest_end}
use Rattle.ssim_overview.proofs.HeldEnds.{end_at}
use Rattle.ssim_overview.proofs.held_ends.held_ends.Given as goal

abbrev pub invariant-loop-place : goal.invariant-loop-place
invariant-loop-place l = record {
  len : length l.ends.items ≡ l.end - l.from;
  each : (j : ℕ) → j < l.end - l.from → slice_index_or l.ends.items j 0
      ≡ latest_end (end_at l.from l.place j) l.sayings;
}
