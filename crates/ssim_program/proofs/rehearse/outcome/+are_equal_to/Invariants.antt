use Rattle.std.proofs.Common.{length}
use Rattle.ssim_program.proofs.rehearse.outcome.+are_equal_to.Given as goal

abbrev pub decreases-are_equal_to : goal.decreases-are_equal_to
decreases-are_equal_to l = length l.others.now
