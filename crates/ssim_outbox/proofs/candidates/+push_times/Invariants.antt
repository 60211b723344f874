use Rattle.std.proofs.Common.{length}
use Rattle.ssim_outbox.proofs.candidates.+push_times.Given as goal

abbrev pub decreases-push_times : goal.decreases-push_times
decreases-push_times l = length l.lines.now
