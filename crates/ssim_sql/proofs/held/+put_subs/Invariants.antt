use Rattle.std.proofs.Common.{length}
use Rattle.ssim_sql.proofs.held.+put_subs.Given as goal

abbrev pub decreases-put_subs : goal.decreases-put_subs
decreases-put_subs l = length l.dates.now
