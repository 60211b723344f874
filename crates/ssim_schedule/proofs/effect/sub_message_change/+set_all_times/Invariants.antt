use Rattle.std.proofs.Common.{length}
use Rattle.ssim_schedule.proofs.effect.sub_message_change.+set_all_times.Given as goal

abbrev pub decreases-set_all_times : goal.decreases-set_all_times
decreases-set_all_times l = length l.lines.now
