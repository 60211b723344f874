-- The text of the name is the first fields of the written spelling.
use Rattle.std.proofs.Common.{[], ◌∷◌}
use Rattle.std.specs.Prelude.{codes, slice_range}
use Rattle.ssim_columns.specs.Leg.{name_texts}
use Rattle.ssim_columns.specs.Numbers.{digits}
use Rattle.ssim_columns.proofs.lemmas.Places.{name_joined}
use Rattle.ssim_records.proofs.record.segment.SegmentRecord.write_over.Goals as goal

pub returns-clause-value : goal.returns-clause-value
returns-clause-value c =
    let i = c.self.inside in
    let back = (i.service ∷ []) ∷ slice_range i.tail 0 13 ∷ (i.overflow ∷ []) ∷ slice_range i.tail 13 179 ∷ digits 6 i.serial ∷ [] in
    rw (c.write_segment.ensures.value, c.name_text.ensures, ← c.self.view_is) (name_joined (codes "4") (name_texts i.name) back)
