-- Each by computing.
use Rattle.ssim_periods.proofs.WorkedLemmas.{worked_pieces}
use Rattle.ssim_periods.proofs.periods.pieces.worked_pieces.Goals as goal

pub returns : goal.returns
returns c = worked_pieces
