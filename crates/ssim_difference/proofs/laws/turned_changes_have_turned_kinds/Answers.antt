use Rattle.ssim_difference.proofs.KindLaws.{turned_kinds}
use Rattle.ssim_difference.proofs.laws.turned_changes_have_turned_kinds.Goals as goal

pub returns : goal.returns
returns c = turned_kinds
