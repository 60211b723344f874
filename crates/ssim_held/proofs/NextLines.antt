-- A line that is read byte by byte: no LF is in it but the last byte.
use Rattle.std.proofs.Common.{◌≡◌, ℕ, ◌<◌, ◌^◌, Bool, true, false, List, [], ◌∷◌, ◌++◌, codes, refl, sym, ap, ◌∙◌, arith, append_assoc}
use Rattle.std.specs.Prelude.{◌==◌, if◌then◌else◌}
use Rattle.std.specs.Fmt.{decimal}
use Rattle.std.proofs.lemmas.Bool.Decides.{nat_tests}
use Rattle.std.proofs.lemmas.List.{append-nil, append_cancel_left}
use Rattle.ssim_text.specs.Bytes.{before, from}
use Rattle.ssim_held.specs.File.{counted}
use Rattle.ssim_held.proofs.CountLines.{before_end, counted_on, decimal_digits, from_end}

one_passed : (t : Bool) (x : ℕ) (xs ys : List ℕ) → (from 10 xs ≡ [] → (before 10 (xs ++ ys) ≡ xs ++ before 10 ys) × (from 10 (xs ++ ys) ≡ from 10 ys)) → (if t then x ∷ xs else from 10 xs) ≡ []
    → ((if t then [] else x ∷ before 10 (xs ++ ys)) ≡ x ∷ (xs ++ before 10 ys)) × ((if t then x ∷ (xs ++ ys) else from 10 (xs ++ ys)) ≡ from 10 ys)
one_passed true x xs ys f h = absurd cc
one_passed false x xs ys f h = let later = f h in (ap (λ bs. x ∷ bs) later.0, later.1)

-- bytes without LF come before the first LF
pub passed : (xs ys : List ℕ) → from 10 xs ≡ [] → (before 10 (xs ++ ys) ≡ xs ++ before 10 ys) × (from 10 (xs ++ ys) ≡ from 10 ys)
passed [] ys h = (refl, refl)
passed (x ∷ xs) ys h = one_passed (x == 10) x xs ys (passed xs ys) h

no_end : (b : ℕ) → (b ≡ 10 → ⊥) → (b == 10) ≡ false
no_end b apart = grind (arith, nat_tests)

-- one byte more, which is no LF
pub no_end_more : (xs : List ℕ) (b : ℕ) → from 10 xs ≡ [] → (b ≡ 10 → ⊥) → from 10 (xs ++ b ∷ []) ≡ []
no_end_more xs b none apart = (passed xs (b ∷ []) none).1 ∙ ap (λ (t : Bool). if t then b ∷ [] else []) (no_end b apart)

-- a line is the first one of its bytes
pub first_line_is : (text line old new : List ℕ) → from 10 text ≡ [] → line ≡ text ++ 10 ∷ [] → old ≡ line ++ new → line ≡ before 10 old ++ 10 ∷ []
first_line_is text line old new none is e =
    let whole : old ≡ text ++ (10 ∷ new) = e ∙ ap (λ bs. bs ++ new) is ∙ append_assoc text (10 ∷ []) new in
    let first : before 10 old ≡ text = ap (before 10) whole ∙ (passed text (10 ∷ new) none).0 ∙ append-nil text in
    is ∙ ap (λ bs. bs ++ 10 ∷ []) (sym first)

-- ---- the line that says how many records there are

-- no LF follows only if no such line comes
pub no_count : (n : ℕ) (old later : List ℕ) → n < 2 ^ 64 → old ≡ counted (codes "RECORDS") n ++ later → from 10 old ≡ [] → ⊥
no_count n old later h e none =
    let some : 10 ∷ later ≡ [] = sym (from_end (decimal n) later (decimal_digits n h)) ∙ ap (from 10) (sym (e ∙ counted_on (codes "RECORDS") later n)) ∙ none in
    absurd cc

-- the line is the first one
pub count_is : (n : ℕ) (old later line new : List ℕ) → n < 2 ^ 64 → old ≡ counted (codes "RECORDS") n ++ later → line ≡ before 10 old ++ 10 ∷ [] → old ≡ line ++ new → (line ≡ counted (codes "RECORDS") n) × (new ≡ later)
count_is n old later line new h e is parts =
    let front : before 10 old ≡ codes "RECORDS" ++ 32 ∷ decimal n = ap (before 10) (e ∙ counted_on (codes "RECORDS") later n) ∙ ap (λ bs. codes "RECORDS" ++ 32 ∷ bs) (before_end (decimal n) later (decimal_digits n h)) in
    let whole : line ≡ counted (codes "RECORDS") n = is ∙ ap (λ bs. bs ++ 10 ∷ []) front ∙ append_assoc (codes "RECORDS") (32 ∷ decimal n) (10 ∷ []) in
    (whole, append_cancel_left (counted (codes "RECORDS") n) new later (ap (λ bs. bs ++ new) (sym whole) ∙ sym parts ∙ e))
