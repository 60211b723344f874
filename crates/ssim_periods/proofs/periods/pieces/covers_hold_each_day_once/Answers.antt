use Rattle.ssim_periods.proofs.CoverLaw.{cover_law}
use Rattle.ssim_periods.proofs.periods.pieces.covers_hold_each_day_once.Goals as goal

pub returns : goal.returns
returns c = cover_law
