use Rattle.ssim_program.proofs.Verdict.{ends_with_same}
use Rattle.ssim_program.proofs.laws.rehearsals_end_with_same.Goals as goal

pub returns : goal.returns
returns c = ends_with_same c.one_message.ensures c.any_two_desks_agree.ensures
