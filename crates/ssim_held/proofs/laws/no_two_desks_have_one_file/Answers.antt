use Rattle.ssim_held.proofs.Files.{no_two_desks}
use Rattle.ssim_held.proofs.laws.no_two_desks_have_one_file.Goals as goal

pub returns : goal.returns
returns c = no_two_desks c.saved_records_are_read.ensures.one c.equal_where_written_equal.ensures
