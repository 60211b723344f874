use Rattle.std.proofs.Common.{length}
use Rattle.ssim_blame.proofs.acting.+act_subs.Given as goal

abbrev pub decreases-act_subs : goal.decreases-act_subs
decreases-act_subs l = length l.subs.now
