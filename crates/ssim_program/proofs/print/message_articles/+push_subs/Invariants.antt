use Rattle.std.proofs.Common.{length}
use Rattle.ssim_program.proofs.print.message_articles.+push_subs.Given as goal

abbrev pub decreases-push_subs : goal.decreases-push_subs
decreases-push_subs l = length l.dates.now
