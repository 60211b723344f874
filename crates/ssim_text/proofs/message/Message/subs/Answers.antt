-- The canonical text spells the message.
use Rattle.std.proofs.Common.{subst}
use Rattle.ssim_text.specs.Message.{MessageValue}
use Rattle.ssim_text.specs.Canonical.{canonical}
use Rattle.ssim_text.specs.clauses.Bounds.{AreSubsBounded}
use Rattle.ssim_text.proofs.BoundsLemmas.{spelled_subs_bounded}
use Rattle.ssim_text.proofs.message.Message.subs.Goals as goal

pub returns-clause-bounded : goal.returns-clause-bounded
returns-clause-bounded c =
    let m = c.self.inside.content in
    subst (λ (x : MessageValue). AreSubsBounded x.subs) c.self.view_is (spelled_subs_bounded m (canonical m) c.self.invariant.1)
