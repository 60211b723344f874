-- What is left to drop is dropped of the rest.
use Rattle.std.proofs.Common.{◌≡◌, length}
use Rattle.ssim_mailbox.specs.Lines.{drop_while, is_control}
use Rattle.ssim_mailbox.proofs.line.drop_controls.Given as goal

abbrev pub invariant-loop-line : goal.invariant-loop-line
invariant-loop-line l = drop_while is_control l.line ≡ drop_while is_control l.fn.line

abbrev pub decreases-loop-line : goal.decreases-loop-line
decreases-loop-line l = length l.line
