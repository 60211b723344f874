-- The cuts from the place on are after the day.
use Rattle.std.proofs.Common.{◌<◌, ◌≤◌, length, slice_index_or}
use Rattle.ssim_periods.proofs.apart_periods.first_entries.place_from_end.Given as goal

abbrev pub invariant-loop-place : goal.invariant-loop-place
invariant-loop-place l = record {
  within : l.place ≤ length l.cuts;
  after : l.place < length l.cuts → l.day < slice_index_or l.cuts l.place 0;
}

abbrev pub decreases-loop-place : goal.decreases-loop-place
decreases-loop-place l = l.place
