-- What is left can be delivered, if the messages could be.
use Rattle.std.proofs.Common.{◌≡◌, ◌++◌, ℕ, List, length}
use Rattle.ssim_base.specs.declared.sub_message.ResolvedSub.{ResolvedSub}
use Rattle.ssim_text.specs.Message.{MessageValue}
use Rattle.ssim_text.specs.declared.action.Sub.{Sub}
use Rattle.ssim_text.specs.declared.reference.Reference.{Reference}
use Rattle.ssim_outbox.specs.Delivery.{CanDeliver, entries_of}
use Rattle.ssim_outbox.specs.internal.Delivery.{AreLeft}
use Rattle.ssim_outbox.proofs.delivery.deliver.Given as goal

abbrev pub invariant-loop-message : goal.invariant-loop-message
invariant-loop-message l = record {
  base : l.desk.base ≡ l.initial.desk.base;
  left : (heading : MessageValue) (group : ℕ) (subs : List Sub) (reference : Reference) (dates : List ResolvedSub)
      → CanDeliver l.initial.desk heading group subs reference dates l.messages
      → AreLeft l.desk heading l.left (l.initial.desk.held ++ entries_of reference dates l.messages);
}

abbrev pub decreases-loop-message : goal.decreases-loop-message
decreases-loop-message l = length l.left
