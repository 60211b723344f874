-- The columns that are compared decide it.
use Rattle.std.proofs.Common.{◌≡◌, sym, ap, ◌∙◌}
use Rattle.std.specs.Str.{bytes_eq}
use Rattle.std.proofs.lemmas.Slice.Eq.{bytes_eq-Decides}
use Rattle.ssim_values.specs.DayMask.{places_of}
use Rattle.ssim_columns.specs.Columns.{columns}
use Rattle.ssim_columns.specs.Leg.{LegFields}
use Rattle.ssim_columns.proofs.lemmas.Legs.{leg_is_written, written_leg_has}
use Rattle.ssim_records.proofs.record.leg.LegRecord.is_written.Goals as goal

pub returns-then-has_digits-clause-is_leg : goal.returns-then-has_digits-clause-is_leg
returns-then-has_digits-clause-is_leg c = rw (← c.self.view_is) c.self.invariant

pub returns-else-has_digits-clause-is_leg : goal.returns-else-has_digits-clause-is_leg
returns-else-has_digits-clause-is_leg c = rw (← c.self.view_is) c.self.invariant

pub returns-then-has_digits-clause-same : goal.returns-then-has_digits-clause-same
returns-then-has_digits-clause-same c =
    let r = c.args.self.now in
    let b = c.args.bytes.now in
    let days = c.write.ensures.places ∙ ap (λ (x : LegFields). places_of x.days) c.self.view_is in
    let value : c.are_same_seven.result ≡ bytes_eq (columns 29 35 b) (places_of r.days) = rw (← days, ← c.text.ensures.value, ← c.seven.ensures) c.are_same_seven.ensures in
    let same = bytes_eq-Decides (columns 29 35 b) (places_of r.days) in
    (λ h. leg_is_written r b c.told-bytes c.requires (c.has_digits.ensures.0 c.if-has_digits.true) (same.0 (sym value ∙ h)), λ e. value ∙ same.1 (written_leg_has r b (returns-then-has_digits-clause-is_leg c) e).1)

pub returns-else-has_digits-clause-same : goal.returns-else-has_digits-clause-same
returns-else-has_digits-clause-same c = (
  λ h. absurd (let no = c.if-has_digits.false in cc),
  λ e. c.has_digits.ensures.1 (written_leg_has c.args.self.now c.args.bytes.now (returns-else-has_digits-clause-is_leg c) e).0,
)
