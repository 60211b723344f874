-- The cuts are those of the entries from the place on.
use Rattle.std.proofs.Common.{◌≤◌, length, drop}
use Rattle.ssim_periods.specs.internal.Apart.{AreCutsOf}
use Rattle.ssim_periods.proofs.apart_periods.first_entries.cuts_of.Given as goal

abbrev pub invariant-loop-place : goal.invariant-loop-place
invariant-loop-place g l = record {
  within : l.place ≤ length l.entries;
  cuts : AreCutsOf (drop l.place l.entries) l.cuts.items;
}

abbrev pub decreases-loop-place : goal.decreases-loop-place
decreases-loop-place g l = l.place
