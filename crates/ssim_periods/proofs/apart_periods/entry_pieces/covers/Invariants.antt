-- The values that come last from the place on are covered, and the earlier entries that have one of
-- them are done.
use Rattle.std.proofs.Common.{◌≡◌, ◌≤◌, length, drop}
use Rattle.std.specs.List.{flat_map}
use Rattle.ssim_periods.specs.internal.Apart.{given_cover, last_values}
use Rattle.ssim_periods.proofs.DoneLemmas.{AreDone}
use Rattle.ssim_periods.proofs.apart_periods.entry_pieces.covers.Given as goal

abbrev pub invariant-loop-place : goal.invariant-loop-place
invariant-loop-place g l = record {
  within : l.place ≤ length l.entries;
  size : length l.done.items ≡ length l.entries;
  done : AreDone g.V.Value.alike l.entries l.done.items l.place;
  pieces : l.pieces.items ≡ flat_map (given_cover g.V.Value.alike l.entries) (last_values g.V.Value.alike (drop l.place l.entries));
}

abbrev pub decreases-loop-place : goal.decreases-loop-place
decreases-loop-place g l = l.place
