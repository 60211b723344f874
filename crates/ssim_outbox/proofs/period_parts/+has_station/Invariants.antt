use Rattle.std.proofs.Common.{length}
use Rattle.ssim_outbox.proofs.period_parts.+has_station.Given as goal

abbrev pub decreases-has_station : goal.decreases-has_station
decreases-has_station l = length l.legs.now
