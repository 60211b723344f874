use Rattle.std.proofs.Common.{◌∙◌, ap, sym, Some, refl}
use Rattle.std.proofs.lemmas.Bool.{false≢true}
use Rattle.ssim_held.proofs.Searching.{found_there}
use Rattle.ssim_held.proofs.lookup.look.Goals as goal

pub returns-then-same : goal.returns-then-same
returns-then-same c =
    found_there c.args.held.now c.requires c.args.reference.now c.in-Ok.at c.in-Ok.ensures.found c.index-held-at.result c.index-held-at.is
    ∙ ap Some (sym c.message.ensures ∙ c.if-same.ensures.0 refl)

pub returns-else-same : goal.returns-else-same
returns-else-same c = (
  c.index-held-at.result.message,
  found_there c.args.held.now c.requires c.args.reference.now c.in-Ok.at c.in-Ok.ensures.found c.index-held-at.result c.index-held-at.is,
  λ e. false≢true (c.if-same.ensures.1 (c.message.ensures ∙ e)),
)
