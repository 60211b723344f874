-- A spelling is of one record.
use Rattle.std.proofs.Common.{◌≡◌, sym, ap, ◌∙◌}
use Rattle.std.specs.Str.{bytes_eq}
use Rattle.std.proofs.lemmas.Slice.Eq.{bytes_eq-Decides}
use Rattle.ssim_records.specs.Record.{written}
use Rattle.ssim_records.proofs.AnyRecord.{same_record, spells_written}
use Rattle.ssim_records.proofs.record.Record.same.Goals as goal

pub returns-in_default : goal.returns-in_default
returns-in_default c =
    let a = c.args.self.now in
    let b = c.args.other.now in
    let e : c.eq.result ≡ bytes_eq (written a) (written b) = rw (← c.write_record.ensures.value, ← c.write_record-in_default.ensures.value, ← c.as_slice.ensures, ← c.as_slice-in_default.ensures) c.eq.ensures in
    let same = bytes_eq-Decides (written a) (written b) in
    let one = spells_written a c.write_record.ensures.is_record in
    let other = spells_written b c.write_record-in_default.ensures.is_record in
    (λ h. same_record a b one other (same.0 (sym e ∙ h)), λ h. e ∙ same.1 (ap written h))
