-- The eight bytes that were compared are those of the texts.
use Rattle.std.proofs.Common.{◌+◌, ◌-◌, length, sym, ap, ◌∙◌, arith}
use Rattle.std.specs.Prelude.{slice_range}
use Rattle.std.proofs.lemmas.Slice.Eq.{bytes_eq-Decides}
use Rattle.ssim_columns.proofs.lemmas.Eights.{front_grows, one_test, same_by_end}
use Rattle.ssim_columns.proofs.text.equality.are_same_texts.Goals as goal

pub loop-place-preserved : goal.loop-place-preserved
loop-place-preserved c =
    front_grows 8 c.args.text.now c.args.other.now c.loop-place.place c.loop-place.invariant (c.are_same.ensures.0 c.if-not-are_same.false ∙ c.bytes_of.ensures)

pub returns : goal.returns
returns c =
    let x = c.args.text.now in
    let y = c.args.other.now in
    let same = bytes_eq-Decides x y in
    one_test _ _
    (λ h. same.1 (same_by_end 8 x y c.loop-place.place _ c.loop-place-test.false (omega (arith, c.requires.some)) (omega (arith, c.requires.some, c.requires.same_length)) c.loop-place.invariant (c.are_same-2.ensures.0 h ∙ c.bytes_of-2.ensures)))
    (λ h. c.are_same-2.ensures.1 (ap (λ t. slice_range t (length x - 8) (length x - 8 + 8)) (same.0 h) ∙ sym c.bytes_of-2.ensures))
