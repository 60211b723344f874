use Rattle.ssim_base.proofs.ResolvedOnce.{one_outcome}
use Rattle.ssim_base.proofs.laws.resolving_has_one_outcome.Goals as goal

pub returns : goal.returns
returns c = one_outcome
