use Rattle.ssim_base.proofs.Bases.{bases_export}
use Rattle.ssim_base.proofs.laws.bases_can_be_exported.Goals as goal

pub returns : goal.returns
returns c = bases_export
