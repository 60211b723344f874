-- Fewer lines are left after each.
use Rattle.std.proofs.Common.{length}
use Rattle.ssim_program.proofs.explain.reason.message_line.after_divider.Given as goal

abbrev pub decreases-loop-left : goal.decreases-loop-left
decreases-loop-left l = length l.left
