-- What is left is that part of the bytes from which the name is yet to be taken off.
use Rattle.std.proofs.Common.{◌≡◌, length}
use Rattle.ssim_program.specs.Mailboxes.{after_name}
use Rattle.ssim_program.proofs.explain.mail.after_name.Given as goal

abbrev pub invariant-loop-left : goal.invariant-loop-left
invariant-loop-left l = after_name l.left ≡ after_name l.bytes

abbrev pub decreases-loop-left : goal.decreases-loop-left
decreases-loop-left l = length l.left
