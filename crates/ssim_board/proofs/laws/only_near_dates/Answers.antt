use Rattle.ssim_board.proofs.Near.{only_near}
use Rattle.ssim_board.proofs.laws.only_near_dates.Goals as goal

pub returns : goal.returns
returns c = only_near
