-- The sub-messages so far, and those that are left of the plan, are all of them. If those that are
-- left resolve, all do.
use Rattle.std.proofs.Common.{◌≡◌, ◌++◌, length}
use Rattle.std.specs.List.{AllByRecursion}
use Rattle.std.specs.Vec.Iter.{into_iter_items, into_iter_len}
use Rattle.ssim_base.specs.Resolve.{AreResolved}
use Rattle.ssim_records.specs.Carrier.{CarrierFields}
use Rattle.ssim_outbox.specs.Reach.{IsSaid}
use Rattle.ssim_outbox.specs.declared.planned_sub.PlannedSub.{PlannedSub}
use Rattle.ssim_outbox.specs.clauses.Messages.{IsAlone}
use Rattle.ssim_outbox.specs.Publication.{dates_of_plan, subs_of_plan}
use Rattle.ssim_outbox.proofs.plan_subs.subs_of_plan.Given as goal

abbrev pub invariant-loop-sub : goal.invariant-loop-sub
invariant-loop-sub l = record {
  value : l.subs.items ++ subs_of_plan l.airline (into_iter_items l.sub-iterator)
      ≡ subs_of_plan l.airline l.fn.plan.items;
  said : AllByRecursion (λ (sub : PlannedSub). IsSaid sub.action) (into_iter_items l.sub-iterator);
  alone : AllByRecursion (IsAlone l.heading) l.subs.items;
  resolved : (carrier : CarrierFields) → l.airline ≡ carrier.airline
      → AreResolved carrier (subs_of_plan l.airline (into_iter_items l.sub-iterator))
      (dates_of_plan (into_iter_items l.sub-iterator))
      → AreResolved carrier (subs_of_plan l.airline l.fn.plan.items) (dates_of_plan l.fn.plan.items);
  left : into_iter_len l.sub-iterator ≡ length (into_iter_items l.sub-iterator);
}
