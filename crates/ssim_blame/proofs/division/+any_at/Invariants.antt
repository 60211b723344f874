use Rattle.std.proofs.Common.{length}
use Rattle.ssim_blame.proofs.division.+any_at.Given as goal

abbrev pub decreases-any_at : goal.decreases-any_at
decreases-any_at l = length l.lines.now
