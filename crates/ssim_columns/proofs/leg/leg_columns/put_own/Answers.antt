-- The parts, each written after those before it, are the columns.
use Rattle.std.proofs.Common.{◌∙◌, arith, refl}
use Rattle.ssim_columns.proofs.lemmas.Overlay.{all_added}
use Rattle.ssim_columns.proofs.leg.leg_columns.put_own.Goals as goal

pub returns : goal.returns
returns c =
    let parts =
    all_added c.append.result c.append.new.out (omega arith)
    ∙ c.append.ensures.value _
    ∙ c.append-at-2.ensures.value _
    ∙ c.append-at.ensures.value _ in
    rw (parts, c.bytes_of.ensures, c.bytes_of-2.ensures, c.text.ensures.value, c.text-2.ensures.value, c.text-3.ensures.value) refl
