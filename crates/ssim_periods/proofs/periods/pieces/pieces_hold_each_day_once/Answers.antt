use Rattle.ssim_periods.proofs.PieceLaw.{pieces_law}
use Rattle.ssim_periods.proofs.periods.pieces.pieces_hold_each_day_once.Goals as goal

pub returns : goal.returns
returns g c = pieces_law g.V.Value.alike g.V.Value.nothing g.met.V.Value.exact
