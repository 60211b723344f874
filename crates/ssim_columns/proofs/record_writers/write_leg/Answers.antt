-- The parts, each written after those before it, are the record.
use Rattle.std.proofs.Common.{◌≡◌, ◌∙◌, arith, lit≤, refl, sym}
use Rattle.std.specs.Prelude.{slice_range}
use Rattle.ssim_columns.proofs.lemmas.Overlay.{all_added}
use Rattle.ssim_columns.proofs.lemmas.OwnColumns.{own_middle, own_service, own_tail}
use Rattle.ssim_columns.proofs.record_writers.write_leg.Goals as goal

pub returns-clause-value : goal.returns-clause-value
returns-clause-value c =
    let d = c.args.columns.now in
    let len = c.text.ensures.valid.len in
    let service : c.text.result.now ≡ slice_range d 0 1 = c.text.ensures.value ∙ sym (own_service d len) in
    let middle : c.text-2.result.now ≡ slice_range d 1 92 = c.text-2.ensures.value ∙ sym (own_middle d 37 127 len (lit≤ tt) (lit≤ tt) (lit≤ tt)) in
    let tail : c.text-3.result.now ≡ slice_range d 92 158 = c.text-3.ensures.value ∙ sym (own_tail d 129 194 len (lit≤ tt) (lit≤ tt) (lit≤ tt)) in
    let parts =
    all_added c.append.result c.append.new.out (omega arith)
    ∙ c.append.ensures.value _
    ∙ c.append-at-8.ensures.value _
    ∙ c.append-at-7.ensures.value _
    ∙ c.append-at-6.ensures.value _
    ∙ c.append-at-5.ensures.value _
    ∙ c.append-at-4.ensures.value _
    ∙ c.append-at-3.ensures.value _
    ∙ c.append-at-2.ensures.value _
    ∙ c.append-at.ensures.value _ in
    rw (parts, c.bytes_of.ensures, c.bytes_of-2.ensures, c.six_digits.ensures, service, middle, tail) refl
