use Rattle.std.proofs.Common.{length}
use Rattle.ssim_schedule.proofs.effect.sub_message_change.+is_there.Given as goal

abbrev pub decreases-is_there : goal.decreases-is_there
decreases-is_there l = length l.legs.now
