-- The messages so far send the sub-messages that are not left.
use Rattle.std.proofs.Common.{◌+◌, ◌≤◌, length}
use Rattle.std.specs.List.{AllByRecursion}
use Rattle.ssim_outbox.specs.clauses.Messages.{IsAlone}
use Rattle.ssim_outbox.specs.internal.Texts.{AreSent}
use Rattle.ssim_outbox.proofs.messages.messages_of.Given as goal

abbrev pub invariant-loop-first : goal.invariant-loop-first
invariant-loop-first l = record {
  alone : AllByRecursion (IsAlone l.heading) l.left;
  sent : AreSent l.heading l.subs l.messages.items l.group l.left;
  room : l.group + length l.left ≤ l.heading.reference.group + length l.subs;
}

abbrev pub decreases-loop-first : goal.decreases-loop-first
decreases-loop-first l = length l.left
