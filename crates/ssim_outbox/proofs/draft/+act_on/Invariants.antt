use Rattle.std.proofs.Common.{length}
use Rattle.ssim_outbox.proofs.draft.+act_on.Given as goal

abbrev pub decreases-act_on : goal.decreases-act_on
decreases-act_on l = length l.actions.now
