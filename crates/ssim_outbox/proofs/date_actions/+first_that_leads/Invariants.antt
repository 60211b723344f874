use Rattle.std.proofs.Common.{length}
use Rattle.ssim_outbox.proofs.date_actions.+first_that_leads.Given as goal

abbrev pub decreases-first_that_leads : goal.decreases-first_that_leads
decreases-first_that_leads l = length l.candidates.now
