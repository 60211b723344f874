-- Two texts over the same lines run to the same end.
use Rattle.ssim_text.proofs.Place.{one_message}
use Rattle.ssim_text.proofs.laws.one_message.Goals as goal

pub returns : goal.returns
returns c = one_message
