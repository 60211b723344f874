use Rattle.std.proofs.Common.{length}
use Rattle.ssim_schedule.proofs.effect.division_points.+any_at.Given as goal

abbrev pub decreases-any_at : goal.decreases-any_at
decreases-any_at l = length l.lines.now
