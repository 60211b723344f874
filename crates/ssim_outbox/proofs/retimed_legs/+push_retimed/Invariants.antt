use Rattle.std.proofs.Common.{length}
use Rattle.ssim_outbox.proofs.retimed_legs.+push_retimed.Given as goal

abbrev pub decreases-push_retimed : goal.decreases-push_retimed
decreases-push_retimed l = length l.old.now
