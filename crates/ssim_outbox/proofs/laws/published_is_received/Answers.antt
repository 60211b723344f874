-- Text by text.
use Rattle.ssim_outbox.proofs.Receiving.{published_is_received}
use Rattle.ssim_outbox.proofs.laws.published_is_received.Goals as goal

pub returns : goal.returns
returns c = published_is_received
