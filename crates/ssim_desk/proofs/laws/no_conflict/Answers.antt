use Rattle.ssim_desk.proofs.Conflicts.{no_conflict, offered_is_reached}
use Rattle.ssim_desk.proofs.laws.no_conflict.Goals as goal

pub returns : goal.returns
returns c = record { none = no_conflict c.one_message.ensures; reached = offered_is_reached c.one_message.ensures c.resolving_has_one_outcome.ensures }
