use Rattle.std.proofs.Common.{length}
use Rattle.ssim_schedule.proofs.builder.leg_group.+are_reversed.Given as goal

abbrev pub decreases-are_reversed : goal.decreases-are_reversed
decreases-are_reversed l = length l.room.now
