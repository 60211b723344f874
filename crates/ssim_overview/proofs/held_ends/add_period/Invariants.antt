-- The first ends at the places so far.
use Rattle.std.proofs.Common.{◌≡◌, ◌<◌, ℕ, length, max, slice_index_or}
use Rattle.ssim_overview.proofs.HeldEnds.{part_at}
use Rattle.ssim_overview.proofs.held_ends.add_period.Given as goal

abbrev pub invariant-loop-place : goal.invariant-loop-place
invariant-loop-place l = record {
  len : length l.ends.items ≡ length l.fn.ends.items;
  each : (j : ℕ) → j < length l.fn.ends.items → slice_index_or l.ends.items j 0
      ≡ max (slice_index_or l.fn.ends.items j 0) (part_at l.from l.period l.place j);
}
