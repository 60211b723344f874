-- The text of the name is the first fields of the written spelling.
use Rattle.std.proofs.Common.{[], ◌∷◌}
use Rattle.std.specs.Prelude.{codes, slice_index, slice_range}
use Rattle.ssim_columns.specs.Leg.{name_texts}
use Rattle.ssim_columns.specs.Numbers.{digits}
use Rattle.ssim_columns.proofs.lemmas.Places.{name_joined}
use Rattle.ssim_columns.proofs.leg.name_text.NameText.write_segment.Goals as goal

pub returns-clause-value : goal.returns-clause-value
returns-clause-value c =
    let own = c.args.tail.now in
    let back = (slice_index c.args.columns.now 0 ∷ []) ∷ slice_range own 0 13 ∷ (32 ∷ []) ∷ slice_range own 13 179 ∷ digits 6 c.args.serial ∷ [] in
    rw (c.write_segment.ensures.value, c.self.invariant, c.bytes_held.ensures.value, ← c.self.view_is) (name_joined (codes "4") (name_texts c.self.inside.name) back)
