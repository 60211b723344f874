-- The text of the variation spells it.
use Rattle.std.proofs.Common.{◌∙◌, Some, ap, sym}
use Rattle.std.proofs.lemmas.Slice.Eq.{bytes_eq-Decides}
use Rattle.ssim_values.specs.Variation.{variation_of}
use Rattle.ssim_values.proofs.ClockLaws.{variation_of-variation_text}
use Rattle.ssim_base.specs.Stations.{Row}
use Rattle.ssim_overview.proofs.spelled_row.SpelledRow.is_spelled.Goals as goal

pub returns : goal.returns
returns c = λ h.
    ap variation_of (sym c.bytes_of.ensures
    ∙ (bytes_eq-Decides c.bytes_of.result c.self.inside.text).0 (sym c.eq.ensures ∙ h)
    ∙ c.self.invariant.spelled)
    ∙ variation_of-variation_text c.self.inside.row.variation c.self.invariant.to
    ∙ ap (λ (r : Row). Some r.variation) c.self.view_is
