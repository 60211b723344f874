-- The plan and the blocks that are left are all of the plan; and if their flights exist, all do.
use Rattle.std.proofs.Common.{◌≡◌, ◌++◌, length}
use Rattle.std.specs.List.{All}
use Rattle.std.specs.Vec.Iter.{into_iter_items, into_iter_len}
use Rattle.ssim_values.specs.Flight.{IsFlight}
use Rattle.ssim_schedule.specs.internal.Blocks.{all_entries}
use Rattle.ssim_schedule.specs.internal.Plan.{plan_of}
use Rattle.ssim_schedule.proofs.export.plan.divide.Given as goal

abbrev pub invariant-loop-block : goal.invariant-loop-block
invariant-loop-block l = record {
  plan : l.plan.items ++ plan_of (all_entries (into_iter_items l.block-iterator)) ≡ plan_of (all_entries l.fn.blocks.items);
  flights : All (λ f. IsFlight f.flight) (all_entries (into_iter_items l.block-iterator))
      → All (λ f. IsFlight f.flight) (all_entries l.fn.blocks.items);
  left : into_iter_len l.block-iterator ≡ length (into_iter_items l.block-iterator);
}
