use Rattle.std.proofs.Common.{length}
use Rattle.ssim_outbox.proofs.leg_change.+push_legs.Given as goal

abbrev pub decreases-push_legs : goal.decreases-push_legs
decreases-push_legs l = length l.legs.now
