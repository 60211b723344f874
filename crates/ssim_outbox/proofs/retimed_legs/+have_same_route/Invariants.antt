use Rattle.std.proofs.Common.{length}
use Rattle.ssim_outbox.proofs.retimed_legs.+have_same_route.Given as goal

abbrev pub decreases-have_same_route : goal.decreases-have_same_route
decreases-have_same_route l = length l.old.now
