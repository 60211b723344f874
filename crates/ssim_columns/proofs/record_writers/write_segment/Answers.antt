-- The parts, each written after those before it, are the record.
use Rattle.std.proofs.Common.{[], ◌++◌, ◌∙◌, arith, refl}
use Rattle.ssim_columns.specs.Numbers.{digits}
use Rattle.ssim_columns.proofs.lemmas.Overlay.{all_added}
use Rattle.ssim_columns.proofs.lemmas.Segments.{own_cut}
use Rattle.ssim_columns.proofs.record_writers.write_segment.Goals as goal

pub returns-clause-value : goal.returns-clause-value
returns-clause-value c =
    let tail = c.args.tail.now in
    let parts =
    all_added c.append.result c.append.new.out (omega arith)
    ∙ c.append.ensures.value _
    ∙ c.append-at-7.ensures.value _
    ∙ c.append-at-6.ensures.value _
    ∙ c.append-at-5.ensures.value _
    ∙ c.append-at-4.ensures.value _
    ∙ c.append-at-3.ensures.value _
    ∙ c.append-at-2.ensures.value _
    ∙ c.append-at.ensures.value _ in
    rw (parts, c.bytes_of.ensures, c.bytes_of-2.ensures, c.bytes_of-3.ensures, c.bytes_held-own.ensures.value, c.six_digits.ensures, own_cut tail (digits 6 c.args.serial ++ [])) refl
