-- The canonical text spells the message.
use Rattle.std.proofs.Common.{subst}
use Rattle.ssim_text.specs.Message.{MessageValue}
use Rattle.ssim_text.specs.Canonical.{canonical}
use Rattle.ssim_text.specs.clauses.Bounds.{IsReferenceBounded}
use Rattle.ssim_text.proofs.BoundsLemmas.{spelled_reference_bounded}
use Rattle.ssim_text.proofs.message.Message.reference.Goals as goal

pub returns-clause-bounded : goal.returns-clause-bounded
returns-clause-bounded c =
    let m = c.self.inside.content in
    subst (λ (x : MessageValue). IsReferenceBounded x.reference) c.self.view_is (spelled_reference_bounded m (canonical m) c.self.invariant.1)
