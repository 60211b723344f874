-- CNL has no lines.
use Rattle.ssim_text.specs.declared.action.Action.TheVariants.{Cnl}
use Rattle.ssim_outbox.proofs.SaidActions.{said_if_allowed}
use Rattle.ssim_outbox.proofs.candidates.cancellation.Goals as goal

pub only-requires : goal.only-requires
only-requires c = said_if_allowed Cnl tt tt
