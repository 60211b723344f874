use Rattle.ssim_desk.proofs.Agreeing.{any_two_desks_agree}
use Rattle.ssim_desk.proofs.laws.any_two_desks_agree.Goals as goal

pub returns : goal.returns
returns c = any_two_desks_agree c.one_message.ensures c.same_bytes_same_base.ensures c.same_bytes_same_rows.ensures c.bases_can_be_exported.ensures
