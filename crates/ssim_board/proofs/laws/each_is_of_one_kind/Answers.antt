use Rattle.ssim_board.proofs.TwoKinds.{of_one_kind}
use Rattle.ssim_board.proofs.laws.each_is_of_one_kind.Goals as goal

pub returns : goal.returns
returns c has movements = of_one_kind has movements
