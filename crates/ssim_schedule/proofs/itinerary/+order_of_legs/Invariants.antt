use Rattle.std.proofs.Common.{length}
use Rattle.ssim_schedule.proofs.itinerary.+order_of_legs.Given as goal

abbrev pub decreases-order_of_legs : goal.decreases-order_of_legs
decreases-order_of_legs l = length l.mine.now
