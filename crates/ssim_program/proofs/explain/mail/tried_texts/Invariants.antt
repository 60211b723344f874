-- The texts so far and those that are left are those of the file.
use Rattle.std.proofs.Common.{◌≡◌, ◌++◌, length, map}
use Rattle.std.specs.List.{AllByRecursion}
use Rattle.ssim_mailbox.specs.Texts.{texts_in}
use Rattle.ssim_program.specs.Mailboxes.{IsTried}
use Rattle.ssim_program.specs.internal.Explain.{tried_of}
use Rattle.ssim_program.proofs.explain.mail.tried_texts.Given as goal

abbrev pub invariant-loop-texts : goal.invariant-loop-texts
invariant-loop-texts l = record {
  texts : map (λ t. (tried_of t).0) l.tried.items ++ l.texts ≡ texts_in l.bytes;
  tried : AllByRecursion IsTried (map tried_of l.tried.items);
}

abbrev pub decreases-loop-texts : goal.decreases-loop-texts
decreases-loop-texts l = length l.texts
