use Rattle.std.proofs.Common.{◌≡◌, ◌+◌, drop}
use Rattle.ssim_schedule.specs.clauses.PlacedLegs.{legs_before}
use Rattle.ssim_schedule.proofs.itinerary.place_among.Given as goal

abbrev pub invariant-loop-place : goal.invariant-loop-place
invariant-loop-place l = legs_before l.leg.sequence (drop l.place l.legs) + l.place ≡ legs_before l.leg.sequence l.legs
