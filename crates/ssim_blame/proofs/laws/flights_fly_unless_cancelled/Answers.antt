use Rattle.ssim_blame.proofs.Flying.{fly_unless_cancelled}
use Rattle.ssim_blame.proofs.laws.flights_fly_unless_cancelled.Goals as goal

pub returns : goal.returns
returns c = fly_unless_cancelled
