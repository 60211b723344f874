-- The texts of the name and the dates are the fields of the written spelling.
use Rattle.std.proofs.Common.{[], ◌∷◌}
use Rattle.std.specs.Prelude.{codes, slice_range}
use Rattle.ssim_columns.specs.clauses.Leg.{dates_texts}
use Rattle.ssim_columns.specs.Leg.{name_texts}
use Rattle.ssim_columns.specs.Numbers.{digits}
use Rattle.ssim_columns.proofs.lemmas.Places.{period_joined}
use Rattle.ssim_records.proofs.record.leg.LegRecord.write_over.Goals as goal

pub returns-clause-value : goal.returns-clause-value
returns-clause-value c =
    let i = c.self.inside in
    let back = (i.rate ∷ []) ∷ slice_range i.columns 1 92 ∷ (i.overflow ∷ []) ∷ slice_range i.columns 92 158 ∷ digits 6 i.serial ∷ [] in
    rw (c.write_leg.ensures.value, c.name_text.ensures, c.dates_text.ensures, ← c.self.view_is)
    (period_joined (codes "3") (name_texts i.name) (slice_range i.columns 0 1 ∷ []) (dates_texts i.first i.last i.days) back)

pub returns-clause-is_leg : goal.returns-clause-is_leg
returns-clause-is_leg c = rw (← c.self.view_is) c.self.invariant
