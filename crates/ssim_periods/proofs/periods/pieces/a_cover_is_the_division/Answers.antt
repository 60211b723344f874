use Rattle.ssim_periods.proofs.DivisionLaw.{division_law}
use Rattle.ssim_periods.proofs.periods.pieces.a_cover_is_the_division.Goals as goal

pub returns : goal.returns
returns c = division_law
