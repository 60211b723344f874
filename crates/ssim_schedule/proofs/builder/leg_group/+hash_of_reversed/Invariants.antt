use Rattle.std.proofs.Common.{length}
use Rattle.ssim_schedule.proofs.builder.leg_group.+hash_of_reversed.Given as goal

abbrev pub decreases-hash_of_reversed : goal.decreases-hash_of_reversed
decreases-hash_of_reversed l = length l.room.now
