-- The tails so far are the same, so the others decide.
use Rattle.std.proofs.Common.{◌≡◌, ◌≤◌, drop, length}
use Rattle.ssim_schedule.specs.clauses.ItineraryOrder.{tails_cmp}
use Rattle.ssim_schedule.proofs.leg.order_of_tails.Given as goal

abbrev pub invariant-loop-place : goal.invariant-loop-place
invariant-loop-place l = record {
  within : l.place ≤ length l.theirs;
  rest : tails_cmp (drop l.place l.mine) (drop l.place l.theirs) ≡ tails_cmp l.mine l.theirs;
}
