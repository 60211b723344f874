use Rattle.ssim_difference.proofs.Listed.{none_differ}
use Rattle.ssim_difference.proofs.laws.equal_timetables_have_no_difference.Goals as goal

pub returns : goal.returns
returns c = none_differ
