-- Each part of the canonical text reads again.
use Rattle.ssim_text.proofs.ReadsBack.{canonical_reads_back}
use Rattle.ssim_text.proofs.laws.canonical_reads_back.Goals as goal

pub returns : goal.returns
returns c = canonical_reads_back
