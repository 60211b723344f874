use Rattle.ssim_desk.proofs.Meanings.{has_export, has_meaning, has_one_export, has_one_meaning}
use Rattle.ssim_desk.proofs.laws.one_meaning.Goals as goal

pub returns : goal.returns
returns c = record { some = has_meaning; only = has_one_meaning; export = has_export c.bases_can_be_exported.ensures; only_export = has_one_export }
