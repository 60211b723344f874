use Rattle.std.proofs.Common.{length}
use Rattle.ssim_desk.proofs.finding_line.+push_subs.Given as goal

abbrev pub decreases-push_subs : goal.decreases-push_subs
decreases-push_subs l = length l.subs.now
