-- The legs that were taken, and those that are left the other way round, are all of them; and there
-- is room for those that are left.
use Rattle.std.proofs.Common.{◌≡◌, ◌≤◌, ◌+◌, ◌++◌, reverse, length}
use Rattle.std.specs.Prelude.{vec_capacity}
use Rattle.ssim_schedule.proofs.itinerary.taken_from.Given as goal

abbrev pub invariant-loop-legs : goal.invariant-loop-legs
invariant-loop-legs l = record {
  legs : l.legs.items ++ reverse l.room.items ≡ reverse l.initial.room.items;
  room : length l.legs.items + length l.room.items ≤ vec_capacity l.legs;
}

abbrev pub decreases-loop-legs : goal.decreases-loop-legs
decreases-loop-legs l = length l.room.items
