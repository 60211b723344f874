use Rattle.std.proofs.Common.{length}
use Rattle.ssim_difference.proofs.change_kind.+have_same_stations.Given as goal

abbrev pub decreases-have_same_stations : goal.decreases-have_same_stations
decreases-have_same_stations l = length l.old.now
