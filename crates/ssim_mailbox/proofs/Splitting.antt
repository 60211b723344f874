-- How bytes are divided at a mark.
use Rattle.std.proofs.Common.{◌≡◌, ◌<◌, ◌≤◌, ℕ, ◌+◌, List, [], ◌∷◌, ◌++◌, length, ap, refl, sym, ◌∙◌, Bool, true, false, cond, get_or, take, drop, append_assoc, arith, eq-eqb}
use Rattle.std.specs.Prelude.{◌==◌, ◌-◌}
use Rattle.std.specs.List.{All, onto_first, slice_split}
use Rattle.std.proofs.lemmas.List.Splits.{length-slice_split, slice_split-cons_yes, slice_split_at, slice_split_none}
use Rattle.std.proofs.lemmas.Bool.{ne_eqb}
use Rattle.std.proofs.lemmas.List.{take-append-drop, take_more}
use Rattle.std.proofs.lemmas.List.Elements.{All-push}
use Rattle.std.proofs.lemmas.Grind.{common_steps}

pub divided : (xs : List ℕ) (i : ℕ) → i < length xs → xs ≡ take i xs ++ get_or xs i 0 ∷ take (length xs - (i + 1)) (drop (i + 1) xs)
divided xs i lt = grind (arith, common_steps)

-- the first mark is at i
pub split_here : (mark : ℕ) (xs : List ℕ) (i : ℕ) → i < length xs → All (λ b. (b == mark) ≡ false) (take i xs) → get_or xs i 0 ≡ mark
    → slice_split (λ b. b == mark) xs ≡ take i xs ∷ slice_split (λ b. b == mark) (take (length xs - (i + 1)) (drop (i + 1) xs))
split_here mark xs i lt none is =
    ap (slice_split (λ b. b == mark)) (divided xs i lt)
    ∙ slice_split_at (λ b. b == mark) (take i xs) (get_or xs i 0) (take (length xs - (i + 1)) (drop (i + 1) xs)) none (eq-eqb (get_or xs i 0) mark is)

-- there is no mark
pub not_split : (mark : ℕ) (xs : List ℕ) (i : ℕ) → length xs ≤ i → All (λ b. (b == mark) ≡ false) (take i xs) → slice_split (λ b. b == mark) xs ≡ xs ∷ []
not_split mark xs i le none = let e : take i xs ≡ xs = grind (arith, common_steps) in slice_split_none (λ b. b == mark) xs (rw e at none)

-- one more byte is no mark
pub none_more : (mark : ℕ) (xs : List ℕ) (i : ℕ) → i < length xs → All (λ b. (b == mark) ≡ false) (take i xs) → (get_or xs i 0 ≡ mark → ⊥)
    → All (λ b. (b == mark) ≡ false) (take (i + 1) xs)
none_more mark xs i lt none other =
    rw (take_more xs i 0 lt) (All-push (λ b. (b == mark) ≡ false) (take i xs) (get_or xs i 0) none (ne_eqb (get_or xs i 0) mark other))

-- ---- the last mark

onto_more : (x : ℕ) (parts more : List (List ℕ)) → 1 ≤ length parts → onto_first x (parts ++ more) ≡ onto_first x parts ++ more
onto_more x [] more some = absurd (omega (arith, some))
onto_more x (part ∷ parts) more some = refl

one_before : (x : ℕ) (b : Bool) (parts more : List (List ℕ)) → 1 ≤ length parts → cond b ([] ∷ (parts ++ more)) (onto_first x (parts ++ more)) ≡ cond b ([] ∷ parts) (onto_first x parts) ++ more
one_before x true parts more some = refl
one_before x false parts more some = onto_more x parts more some

-- the parts before an element that passes, and those after it
split_both : (p : ℕ → Bool) (xs : List ℕ) (y : ℕ) (ys : List ℕ) → p y ≡ true → slice_split p (xs ++ y ∷ ys) ≡ slice_split p xs ++ slice_split p ys
split_both p [] y ys h = slice_split-cons_yes p y ys h
split_both p (x ∷ xs) y ys h =
    let some : 1 ≤ length (slice_split p xs) = omega (arith, length-slice_split p xs) in
    ap (λ (parts : List (List ℕ)). cond (p x) ([] ∷ parts) (onto_first x parts)) (split_both p xs y ys h) ∙ one_before x (p x) (slice_split p xs) (slice_split p ys) some

-- the bytes before the last mark and those after it, in which there is none
pub split_last : (mark : ℕ) (bytes rest before line : List ℕ) (last : ℕ) → rest ≡ take (length rest) bytes → rest ≡ before ++ last ∷ [] → line ≡ drop (length rest) bytes → All (λ b. (b == mark) ≡ false) line → last ≡ mark
    → slice_split (λ b. b == mark) bytes ≡ slice_split (λ b. b == mark) before ++ line ∷ []
split_last mark bytes rest before line last front ends after none is =
    let p = λ (b : ℕ). b == mark in
    let whole : bytes ≡ before ++ last ∷ line =
    sym (take-append-drop (length rest) bytes) ∙ ap (λ xs. xs ++ drop (length rest) bytes) (sym front ∙ ends) ∙ append_assoc before (last ∷ []) (drop (length rest) bytes) ∙ ap (λ xs. before ++ last ∷ xs) (sym after) in
    ap (slice_split p) whole ∙ split_both p before last line (eq-eqb last mark is) ∙ ap (λ parts. slice_split p before ++ parts) (slice_split_none p line none)
