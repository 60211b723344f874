use Rattle.std.proofs.Common.{length}
use Rattle.ssim_schedule.proofs.effect.sub_message_change.+have_all.Given as goal

abbrev pub decreases-have_all : goal.decreases-have_all
decreases-have_all l = length l.lines.now
