-- A text is read back.
use Rattle.ssim_sql.proofs.Reading.{reads_back}
use Rattle.ssim_sql.proofs.laws.texts_read_back.Goals as goal

pub returns : goal.returns
returns c = reads_back
