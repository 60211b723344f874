use Rattle.std.proofs.Common.{length}
use Rattle.ssim_outbox.proofs.reason.+are_numbered_from.Given as goal

abbrev pub decreases-are_numbered_from : goal.decreases-are_numbered_from
decreases-are_numbered_from l = length l.legs.now
