-- The sub-messages so far, and those of the actions that are left, are all of them.
use Rattle.std.proofs.Common.{◌≡◌, ◌++◌, length, map}
use Rattle.std.specs.Vec.Iter.{into_iter_items, into_iter_len}
use Rattle.ssim_outbox.specs.internal.Drafts.{planned}
use Rattle.ssim_outbox.proofs.draft.push_subs.Given as goal

abbrev pub invariant-loop-action : goal.invariant-loop-action
invariant-loop-action l = record {
  planned : l.subs.items ++ map (planned l.flight l.period) (into_iter_items l.action-iterator)
      ≡ l.initial.subs.items ++ map (planned l.flight l.period) l.fn.actions.items;
  left : into_iter_len l.action-iterator ≡ length (into_iter_items l.action-iterator);
}
