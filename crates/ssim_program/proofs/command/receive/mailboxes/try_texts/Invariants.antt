-- The texts that are left go on from those that were tried.
use Rattle.std.proofs.Common.{length}
use Rattle.ssim_mailbox.specs.Texts.{texts_in}
use Rattle.ssim_program.specs.Receiving.{TriesEach}
use Rattle.ssim_program.proofs.Received.{Through}
use Rattle.ssim_program.proofs.command.receive.mailboxes.try_texts.Given as goal

abbrev pub invariant-loop-texts : goal.invariant-loop-texts
invariant-loop-texts l =
    Through (λ before some after. TriesEach l.fn.file before (texts_in l.mailbox) some after) (λ before some after. TriesEach l.fn.file before l.texts some after) l.fn.desk l.desk l.fn.receipts l.receipts

abbrev pub decreases-loop-texts : goal.decreases-loop-texts
decreases-loop-texts l = length l.texts
