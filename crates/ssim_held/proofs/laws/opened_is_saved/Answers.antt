use Rattle.ssim_held.proofs.Files.{opens_as_saved, saves_as_opened}
use Rattle.ssim_held.proofs.laws.opened_is_saved.Goals as goal

pub returns : goal.returns
returns c = record { opens = opens_as_saved c.no_two_desks_have_one_file.ensures; saves = saves_as_opened }
