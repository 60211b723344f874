-- Each by computing.
use Rattle.ssim_text.proofs.WorkedLemmas.{worked_texts}
use Rattle.ssim_text.proofs.laws.worked_texts.Goals as goal

pub returns : goal.returns
returns c = worked_texts
