-- Two texts over the same lines run to the same end.
use Rattle.ssim_text.proofs.OneRefusal.{one_refusal}
use Rattle.ssim_text.proofs.laws.one_refusal.Goals as goal

pub returns : goal.returns
returns c = one_refusal
