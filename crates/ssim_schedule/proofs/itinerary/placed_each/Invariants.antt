-- The legs that were pushed, and those that are left of both lists, are the legs of both lists.
use Rattle.std.proofs.Common.{◌≡◌, ◌≤◌, ◌++◌, drop, length}
use Rattle.ssim_schedule.specs.clauses.PlacedLegs.{placed_each}
use Rattle.ssim_schedule.proofs.itinerary.placed_each.Given as goal

abbrev pub invariant-loop-leg : goal.invariant-loop-leg
invariant-loop-leg l =
    record {
      within : l.from ≤ length l.others;
      rest : l.all.items ++ placed_each (drop l.leg-index l.legs) (drop l.from l.others)
          ≡ placed_each l.legs l.others;
    }
