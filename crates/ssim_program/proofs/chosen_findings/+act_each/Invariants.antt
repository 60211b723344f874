-- One sub-message less is left.
use Rattle.std.proofs.Common.{length}
use Rattle.ssim_program.proofs.chosen_findings.+act_each.Given as goal

abbrev pub decreases-act_each : goal.decreases-act_each
decreases-act_each l = length l.subs.now
