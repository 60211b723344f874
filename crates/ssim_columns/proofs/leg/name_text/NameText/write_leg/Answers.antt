-- The texts of the name and the period are the fields of the written spelling.
use Rattle.std.proofs.Common.{[], ◌∷◌}
use Rattle.std.specs.Prelude.{codes, slice_range}
use Rattle.ssim_columns.specs.Leg.{name_texts}
use Rattle.ssim_columns.specs.clauses.Leg.{period_texts}
use Rattle.ssim_columns.specs.Numbers.{digits}
use Rattle.ssim_columns.proofs.lemmas.Places.{period_joined}
use Rattle.ssim_columns.proofs.leg.name_text.NameText.write_leg.Goals as goal

pub returns-clause-value : goal.returns-clause-value
returns-clause-value c =
    let own = c.args.columns.now in
    let back = (32 ∷ []) ∷ slice_range own 1 92 ∷ (32 ∷ []) ∷ slice_range own 92 158 ∷ digits 6 c.args.serial ∷ [] in
    rw (c.write_leg.ensures.value, c.self.invariant, c.text.ensures, ← c.self.view_is)
    (period_joined (codes "3") (name_texts c.self.inside.name) (slice_range own 0 1 ∷ []) (period_texts c.args.period.now) back)
