-- A text in its columns, with blanks after it, and without these blanks.
use Rattle.std.proofs.Common.{◌≡◌, ◌≤◌, ◌∙◌, ℕ, suc, zero, true, List, [], ◌∷◌, length, refl, ap, arith}
use Rattle.std.specs.List.{list_all}
use Rattle.std.proofs.lemmas.Bool.{and_parts}
use Rattle.std.proofs.lemmas.Bool.Decides.{nat_tests}
use Rattle.ssim_columns.specs.Columns.{carried, filled, is_carried}
use Rattle.ssim_text.specs.Bytes.{is_printable}
use Rattle.ssim_text.specs.Left.{onto, without_end}
use Rattle.ssim_text.proofs.LinesKept.{all_more, chosen}
use Rattle.ssim_text.proofs.Words.{is_solid, solid_line, solid_printable}

printable_carried : (b : ℕ) → is_printable b ≡ true → is_carried b ≡ true
printable_carried b h = grind (arith, nat_tests)

pub carried_same : (b : ℕ) → is_printable b ≡ true → carried b ≡ b
carried_same b h = chosen (is_carried b) b 32 (printable_carried b h)

blank_end : (n : ℕ) → without_end (filled n []) ≡ []
blank_end zero = refl
blank_end (suc n) = ap (onto 32) (blank_end n)

-- the blanks after a text in its columns are dropped
pub filled_end : (n : ℕ) (text : List ℕ) → length text ≤ n → list_all is_printable text ≡ true
    → without_end (filled n text) ≡ without_end text
filled_end zero [] h p = refl
filled_end zero (b ∷ text) h p = absurd (omega (arith, h))
filled_end (suc n) [] h p = blank_end (suc n)
filled_end (suc n) (b ∷ text) h p =
    let q = and_parts (is_printable b) (list_all is_printable text) p in
    λ i. onto (carried_same b q.0 i) (filled_end n text (omega (arith, h)) q.1 i)

-- a text that fills its columns
pub filled_same : (n : ℕ) (text : List ℕ) → length text ≡ n → list_all is_printable text ≡ true
    → filled n text ≡ text
filled_same zero [] h p = refl
filled_same zero (b ∷ text) h p = absurd (omega (arith, h))
filled_same (suc n) [] h p = absurd (omega (arith, h))
filled_same (suc n) (b ∷ text) h p =
    let q = and_parts (is_printable b) (list_all is_printable text) p in
    λ i. carried_same b q.0 i ∷ filled_same n text (omega (arith, h)) q.1 i

solid_end : (text : List ℕ) → list_all is_solid text ≡ true → without_end text ≡ text
solid_end [] h = refl
solid_end (b ∷ text) h = (solid_line (b ∷ text) (omega arith) h).ended

-- a text without blanks
pub solid_filled : (n : ℕ) (text : List ℕ) → length text ≤ n → list_all is_solid text ≡ true
    → without_end (filled n text) ≡ text
solid_filled n text few h =
    filled_end n text few (all_more is_solid is_printable solid_printable text h)
    ∙ solid_end text h
