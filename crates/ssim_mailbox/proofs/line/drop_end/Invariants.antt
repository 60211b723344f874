-- What is left to drop is dropped of the rest.
use Rattle.std.proofs.Common.{◌≡◌, length}
use Rattle.ssim_mailbox.specs.Lines.{drop_while_at_end, is_dropped_at_end}
use Rattle.ssim_mailbox.proofs.line.drop_end.Given as goal

abbrev pub invariant-loop-line : goal.invariant-loop-line
invariant-loop-line l = drop_while_at_end is_dropped_at_end l.line ≡ drop_while_at_end is_dropped_at_end l.fn.line

abbrev pub decreases-loop-line : goal.decreases-loop-line
decreases-loop-line l = length l.line
