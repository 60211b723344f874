-- The canonical text spells the message.
use Rattle.std.proofs.Common.{subst}
use Rattle.ssim_text.specs.Message.{MessageValue}
use Rattle.ssim_text.specs.Canonical.{canonical}
use Rattle.ssim_text.specs.clauses.Bounds.{AreFreeLinesBounded}
use Rattle.ssim_text.proofs.BoundsLemmas.{spelled_free_bounded}
use Rattle.ssim_text.proofs.message.Message.free.Goals as goal

pub returns-clause-bounded : goal.returns-clause-bounded
returns-clause-bounded c =
    let m = c.self.inside.content in
    subst (λ (x : MessageValue). AreFreeLinesBounded x.free) c.self.view_is (spelled_free_bounded m (canonical m) c.self.invariant.1)
