use Rattle.ssim_difference.proofs.KindLaws.{kinds_are_all}
use Rattle.ssim_difference.proofs.laws.each_change_has_one_kind.Goals as goal

pub returns : goal.returns
returns c = kinds_are_all
