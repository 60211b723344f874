use Rattle.std.proofs.Common.{length}
use Rattle.ssim_outbox.proofs.leg_change.+is_second.Given as goal

abbrev pub decreases-is_second : goal.decreases-is_second
decreases-is_second l = length l.earlier.now
