use Rattle.std.proofs.Common.{◌≡◌, ◌++◌, take}
use Rattle.ssim_schedule.proofs.itinerary.push_copies.Given as goal

abbrev pub invariant-loop-leg : goal.invariant-loop-leg
invariant-loop-leg l = l.all.items ≡ l.initial.all.items ++ take l.leg-index l.legs
