use Rattle.std.proofs.Common.{length}
use Rattle.ssim_difference.proofs.change_kind.+have_same_equipment.Given as goal

abbrev pub decreases-have_same_equipment : goal.decreases-have_same_equipment
decreases-have_same_equipment l = length l.old.now
