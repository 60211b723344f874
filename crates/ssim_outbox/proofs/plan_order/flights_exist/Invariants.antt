-- The flights so far exist.
use Rattle.std.proofs.Common.{take}
use Rattle.std.specs.List.{AllByRecursion}
use Rattle.ssim_values.specs.Flight.{IsFlight}
use Rattle.ssim_outbox.specs.declared.planned_sub.PlannedSub.{PlannedSub}
use Rattle.ssim_outbox.proofs.plan_order.flights_exist.Given as goal

abbrev pub invariant-loop-sub : goal.invariant-loop-sub
invariant-loop-sub l =
    AllByRecursion (λ (sub : PlannedSub). IsFlight sub.flight) (take l.sub-index l.subs)
