use Rattle.ssim_base.proofs.FirstRefusals.{names_the_end, names_the_first}
use Rattle.ssim_base.proofs.laws.first_invalid_record_is_named.Goals as goal

pub returns : goal.returns
returns c = record { first = names_the_first; end = names_the_end }
