use Rattle.std.proofs.Common.{length}
use Rattle.ssim_difference.proofs.change_kind.+have_same_times.Given as goal

abbrev pub decreases-have_same_times : goal.decreases-have_same_times
decreases-have_same_times l = length l.old.now
