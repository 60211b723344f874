use Rattle.std.proofs.Common.{length}
use Rattle.ssim_desk.proofs.date_step.+push_subs.Given as goal

-- proposed from what the function passes where it calls itself
abbrev pub decreases-push_subs : goal.decreases-push_subs
decreases-push_subs l = length l.subs.now
