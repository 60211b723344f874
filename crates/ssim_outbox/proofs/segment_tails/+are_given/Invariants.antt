use Rattle.std.proofs.Common.{length}
use Rattle.ssim_outbox.proofs.segment_tails.+are_given.Given as goal

abbrev pub decreases-are_given : goal.decreases-are_given
decreases-are_given l = length l.tails.now
