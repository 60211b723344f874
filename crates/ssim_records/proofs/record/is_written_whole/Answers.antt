-- The record is written and compared.
use Rattle.std.proofs.Common.{◌≡◌, sym, ◌∙◌}
use Rattle.std.specs.Str.{bytes_eq}
use Rattle.std.proofs.lemmas.Slice.Eq.{bytes_eq-Decides}
use Rattle.ssim_records.specs.Record.{written}
use Rattle.ssim_records.proofs.record.is_written_whole.Goals as goal

pub returns-clause-same : goal.returns-clause-same
returns-clause-same c =
    let r = c.args.value.now in
    let b = c.args.bytes.now in
    let value : c.eq.result ≡ bytes_eq (written r) b = rw (← c.write_record.ensures.value, ← c.as_slice.ensures, ← c.as_slice-2.ensures) c.eq.ensures in
    let same = bytes_eq-Decides (written r) b in
    (λ h. sym (same.0 (sym value ∙ h)), λ e. value ∙ same.1 (sym e))
