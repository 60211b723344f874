-- Lists of lists, one at each rank, and what is made rank by rank.
use Rattle.std.proofs.Common.{◌≡◌, ◌≢◌, ◌∙◌, ℕ, zero, suc, ◌+◌, ◌++◌, ◌<◌, Bool, true, false, nat_eq}
use Rattle.std.proofs.Common.{if◌then◌else◌, List, [], ◌∷◌, length, map, get_or, set, replicate}
use Rattle.std.proofs.Common.{get_or-set_same, get_or-set_other, refl, sym, ap, arith, append-nil}
use Rattle.std.specs.List.{flat_map, range_with_len}
use Rattle.std.proofs.lemmas.Bool.Decides.{nat_tests}
use Rattle.std.proofs.lemmas.List.Concat.{flat_map-append}
use Rattle.ssim_overview.proofs.SaidDays.{range_split}

-- one of the lists
pub at_map : {L X : Type 0} (items : L → List X) (xs : List L) (k : ℕ) (d : L) → k < length xs
    → get_or (map items xs) k [] ≡ items (get_or xs k d)
at_map items [] k d h = absurd (omega arith)
at_map items (x ∷ xs) zero d h = refl
at_map items (x ∷ xs) (suc k) d h = at_map items xs k d (omega arith)

map_set : {L X : Type 0} (f : L → X) (xs : List L) (k : ℕ) (y : L)
    → map f (set xs k y) ≡ set (map f xs) k (f y)
map_set f [] k y = refl
map_set f (x ∷ xs) zero y = refl
map_set {L} {X} f (x ∷ xs) (suc k) y = ap (λ (ys : List X). f x ∷ ys) (map_set f xs k y)

-- an element more in one of the lists
pub pushed : {L X : Type 0} (items : L → List X) (old : List L) (n : ℕ) (own new : L) (x : X)
    → n < length old → own ≡ get_or old n own → items new ≡ items own ++ x ∷ []
    → map items (set old n new) ≡ set (map items old) n (get_or (map items old) n [] ++ x ∷ [])
pushed {L} {X} items old n own new x within is added =
    map_set items old n new
    ∙ ap (set (map items old) n)
    (added ∙ ap (λ (l : List X). l ++ x ∷ []) (ap items is ∙ sym (at_map items old n own within)))

-- no list has an element
pub none_in : {X : Type 0} (n k : ℕ) → get_or (replicate {A = List X} n []) k [] ≡ []
none_in zero k = refl
none_in (suc n) zero = refl
none_in (suc n) (suc k) = none_in n k

pub apart : (k n : ℕ) → nat_eq n k ≡ false → k ≢ n
apart k n e = grind (arith, nat_tests)

pub together : (k n : ℕ) → nat_eq n k ≡ true → k ≡ n
together k n e = grind (arith, nat_tests)

-- an element more at a rank
pub one_at : {X : Type 0} (old : List (List X)) (n k : ℕ) (x : X) → n < length old
    → get_or (set old n (get_or old n [] ++ x ∷ [])) k []
    ≡ get_or old k [] ++ (if nat_eq n k then x ∷ [] else [])
one_at {X} old n k x within = at (nat_eq n k) refl
  where
    at : (b : Bool) → nat_eq n k ≡ b
        → get_or (set old n (get_or old n [] ++ x ∷ [])) k []
        ≡ get_or old k [] ++ (if b then x ∷ [] else [])
    at true e =
        let same : k ≡ n = together k n e in
        ap (λ (i : ℕ). get_or (set old n (get_or old n [] ++ x ∷ [])) i []) same
        ∙ rw get_or-set_same refl
        ∙ ap (λ (i : ℕ). get_or old i [] ++ x ∷ []) (sym same)
    at false e =
        let other : k ≢ n = apart k n e in
        let is_old : get_or (set old n (get_or old n [] ++ x ∷ [])) k [] ≡ get_or old k [] =
        rw get_or-set_other refl in
        is_old ∙ sym (append-nil (get_or old k []))

-- what is made of one rank more
pub rank_more : {A : Type 0} (f : ℕ → List A) (rank : ℕ) (old new : List A)
    → old ≡ flat_map f (range_with_len 0 rank) → new ≡ old ++ f rank
    → new ≡ flat_map f (range_with_len 0 (rank + 1))
rank_more {A} f rank old new before added =
    let here : 0 + rank ≡ rank = omega arith in
    added ∙ ap (λ (o : List A). o ++ f rank) before
    ∙ sym (ap (flat_map f) (range_split 0 rank 1
    ∙ ap (λ (k : ℕ). range_with_len 0 rank ++ range_with_len k 1) here)
    ∙ flat_map-append f (range_with_len 0 rank) (rank ∷ [])
    ∙ ap (λ (l : List A). flat_map f (range_with_len 0 rank) ++ l) (append-nil (f rank)))
