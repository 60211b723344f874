-- The legs are new legs that messages can have.
use Rattle.std.proofs.Common.{Option, IfSome, subst}
use Rattle.ssim_text.specs.declared.action.Action.TheVariants.{Rpl}
use Rattle.ssim_text.specs.declared.action.NewLegs.{NewLegs}
use Rattle.ssim_outbox.specs.Sayable.{AreNewLegs}
use Rattle.ssim_outbox.proofs.SaidActions.{said_if_allowed}
use Rattle.ssim_outbox.proofs.candidates.replacement.Goals as goal

pub only-requires : goal.only-requires
only-requires c =
    let are : AreNewLegs c.in-Some.new =
    subst (λ (made : Option NewLegs). IfSome made AreNewLegs) c.in-Some.is
    c.in_ok-new_legs.ensures.are in
    said_if_allowed (Rpl c.in-Some.new) are.allowed are
