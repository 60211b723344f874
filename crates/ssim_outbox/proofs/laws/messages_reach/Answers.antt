use Rattle.ssim_outbox.proofs.Reached.{messages_reach}
use Rattle.ssim_outbox.proofs.laws.messages_reach.Goals as goal

pub returns : goal.returns
returns c = messages_reach
