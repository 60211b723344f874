use Rattle.ssim_desk.proofs.Merging.{merges_are_determined, takes_are_determined}
use Rattle.ssim_desk.proofs.laws.answers_are_determined.Goals as goal

pub returns : goal.returns
returns c = record { takes = takes_are_determined c.one_message.ensures c.one_refusal.ensures c.resolving_has_one_outcome.ensures; merges = merges_are_determined }
