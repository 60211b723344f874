-- One sub-message less is left.
use Rattle.std.proofs.Common.{length}
use Rattle.ssim_program.proofs.chosen_findings.+push_subs.Given as goal

abbrev pub decreases-push_subs : goal.decreases-push_subs
decreases-push_subs l = length l.subs.now
