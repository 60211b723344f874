use Rattle.std.proofs.Common.{length}
use Rattle.ssim_schedule.proofs.effect.sub_message_change.+set_times.Given as goal

abbrev pub decreases-set_times : goal.decreases-set_times
decreases-set_times l = length l.legs.now
