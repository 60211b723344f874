use Rattle.std.proofs.Common.{length}
use Rattle.ssim_outbox.proofs.leg_change.+have_other_equipment.Given as goal

abbrev pub decreases-have_other_equipment : goal.decreases-have_other_equipment
decreases-have_other_equipment l = length l.new.now
