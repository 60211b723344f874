-- The first ends of the periods so far.
use Rattle.std.proofs.Common.{◌≡◌, ◌<◌, ℕ, ◌+◌, ◌-◌, length, slice_index_or, take}
use Rattle.ssim_overview.specs.internal.HeldEnds.{first_end, latest_end}
use Rattle.ssim_overview.proofs.held_ends.first_ends.Given as goal

abbrev pub invariant-loop-saying : goal.invariant-loop-saying
invariant-loop-saying l = record {
  len : length l.ends.items ≡ l.end - l.from;
  each : (j : ℕ) → j < l.end - l.from → slice_index_or l.ends.items j 0
      ≡ latest_end (first_end l.from (l.from + j)) (take l.saying-index l.sayings);
}
