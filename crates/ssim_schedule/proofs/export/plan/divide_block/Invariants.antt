-- The plan and the flights that are left are all of the plan; and if those that are left exist, all
-- do.
use Rattle.std.proofs.Common.{◌≡◌, ◌++◌, length}
use Rattle.std.specs.List.{All}
use Rattle.std.specs.Vec.Iter.{into_iter_items, into_iter_len}
use Rattle.ssim_values.specs.Flight.{IsFlight}
use Rattle.ssim_schedule.specs.internal.Plan.{plan_of}
use Rattle.ssim_schedule.proofs.export.plan.divide_block.Given as goal

abbrev pub invariant-loop-entry : goal.invariant-loop-entry
invariant-loop-entry l = record {
  plan : l.plan.items ++ plan_of (into_iter_items l.entry-iterator) ≡ l.initial.plan.items ++ plan_of l.fn.entries.items;
  flights : All (λ f. IsFlight f.flight) (into_iter_items l.entry-iterator) → All (λ f. IsFlight f.flight) l.fn.entries.items;
  left : into_iter_len l.entry-iterator ≡ length (into_iter_items l.entry-iterator);
}
