-- On one base each message means the same.
use Rattle.ssim_program.proofs.CarriedFiles.{carries_as_merges}
use Rattle.ssim_program.proofs.laws.carrying_is_merging.Goals as goal

pub returns : goal.returns
returns c = carries_as_merges c.no_two_desks_have_one_file.ensures
