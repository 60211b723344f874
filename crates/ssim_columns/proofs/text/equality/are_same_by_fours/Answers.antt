-- The first four bytes and the last four cover the texts.
use Rattle.std.proofs.Common.{◌-◌, ◌+◌, List, ℕ, length, ap, arith}
use Rattle.std.specs.Prelude.{slice_range}
use Rattle.std.proofs.lemmas.Slice.Eq.{bytes_eq-Decides}
use Rattle.ssim_columns.proofs.lemmas.Eights.{one_test, same_by_end}
use Rattle.ssim_columns.proofs.text.equality.are_same_by_fours.Goals as goal

pub returns-then-are_same_four : goal.returns-then-are_same_four
returns-then-are_same_four c =
    let x = c.args.text.now in
    let y = c.args.other.now in
    let last = length x - 4 in
    let same = bytes_eq-Decides x y in
    let front = c.are_same_four.ensures.0 c.if-are_same_four.true in
    one_test _ _
    (λ h. same.1 (same_by_end 4 x y 4 last (omega (arith, c.requires.to)) (omega (arith, c.requires.from)) (omega (arith, c.requires.from, c.requires.same_length)) front (c.are_same_four-then-are_same_four.ensures.0 h)))
    (λ h. c.are_same_four-then-are_same_four.ensures.1 (ap (λ (t : List ℕ). slice_range t last (last + 4)) (same.0 h)))

pub returns-else-are_same_four : goal.returns-else-are_same_four
returns-else-are_same_four c =
    let same = bytes_eq-Decides c.args.text.now c.args.other.now in
    one_test _ _
    (λ h. absurd cc)
    (λ h. let front = c.are_same_four.ensures.1 (ap (λ (t : List ℕ). slice_range t 0 4) (same.0 h)) in absurd cc)
