use Rattle.ssim_base.proofs.ReadBackBy.{read_back}
use Rattle.ssim_base.proofs.laws.written_bases_are_read.Goals as goal

pub returns : goal.returns
returns c = read_back c.frames_are_one.ensures.one
