-- Bytes that spell the records of a base are read as that base.
use Rattle.ssim_program.proofs.Again as again
use Rattle.ssim_program.proofs.laws.tidied_once.Goals as goal

pub returns : goal.returns
returns c = again.tidied_once c.written_bases_are_read.ensures
