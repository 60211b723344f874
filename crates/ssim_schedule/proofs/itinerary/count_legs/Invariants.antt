-- The count so far and the count of what is left are the whole count.
use Rattle.std.proofs.Common.{◌≡◌, ◌<◌, ◌+◌, drop}
use Rattle.ssim_schedule.specs.internal.SharedLegs.{legs_count}
use Rattle.ssim_schedule.proofs.itinerary.count_legs.Given as goal

abbrev pub invariant-loop-leg : goal.invariant-loop-leg
invariant-loop-leg l = record {
  room : l.count < 999999;
  all : l.count + legs_count (drop l.leg-index l.legs) ≡ legs_count l.legs;
}
