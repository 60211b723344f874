-- A text is read as one reference.
use Rattle.ssim_text.proofs.PrintedReferences.{one_reference}
use Rattle.ssim_text.proofs.laws.one_reference.Goals as goal

pub returns : goal.returns
returns c = one_reference
