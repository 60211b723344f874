use Rattle.ssim_program.proofs.RefusalTexts.{memory_text}
use Rattle.ssim_program.proofs.laws.memory_has_one_line.Goals as goal

pub returns : goal.returns
returns c = memory_text
