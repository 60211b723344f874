use Rattle.ssim_difference.proofs.Pieces.{hold_differences}
use Rattle.ssim_difference.proofs.laws.pieces_hold_differences.Goals as goal

pub returns : goal.returns
returns c = hold_differences
