-- The columns of the field, as the leg has them.
use Rattle.std.proofs.Common.{◌≡◌, ℕ, List, ◌++◌, ◌∷◌, OnOk, subst}
use Rattle.ssim_listing.specs.LegText.{dotted}
use Rattle.ssim_listing.proofs.leg_text.push_field.Goals as goal

pub returns : goal.returns
returns c =
    subst (λ (bs : List ℕ). OnOk c.push_shown.result (c.push_shown.new.lines.items ≡ c.args.lines.now.items ++ 32 ∷ dotted bs))
    c.text.ensures.value c.push_shown.ensures
