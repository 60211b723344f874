-- A list of which the first elements are moved to the front by one, and one is put behind them; and
-- one of which the first elements are left out.
use Rattle.std.proofs.Common.{◌≡◌, ℕ, zero, suc, ◌+◌, ◌<◌, ◌≤◌, List, [], ◌∷◌, ◌++◌, length, take, drop, slice_index_or, slice_set, refl, ap, ◌∙◌, arith}
use Rattle.std.specs.List.{insert}

pub index-drop : {X : Type 0} (xs : List X) (s k : ℕ) (d : X) → slice_index_or xs (s + k) d ≡ slice_index_or (drop s xs) k d
index-drop xs zero k d = ap (λ j. slice_index_or xs j d) (omega arith)
index-drop [] (suc s) k d = refl
index-drop (x ∷ xs) (suc s) k d = let e : suc s + k ≡ suc (s + k) = omega arith in ap (λ j. slice_index_or (x ∷ xs) j d) e ∙ index-drop xs s k d

pub drop-set : {X : Type 0} (xs : List X) (s k : ℕ) (v : X) → drop s (slice_set xs (s + k) v) ≡ slice_set (drop s xs) k v
drop-set xs zero k v = ap (λ j. slice_set xs j v) (omega arith)
drop-set [] (suc s) k v = refl
drop-set (x ∷ xs) (suc s) k v = let e : suc s + k ≡ suc (s + k) = omega arith in ap (λ j. drop (suc s) (slice_set (x ∷ xs) j v)) e ∙ drop-set xs s k v

-- one more element moved
pub moved-more : {X : Type 0} (xs : List X) (o v d : X) (m : ℕ) → m < length xs → v ≡ slice_index_or (take m xs ++ drop m (o ∷ xs)) (m + 1) d → slice_set (take m xs ++ drop m (o ∷ xs)) m v ≡ take (m + 1) xs ++ drop m xs
moved-more [] o v d m l is = absurd (omega arith)
moved-more (x ∷ xs) o v d zero l is = ap (λ y. y ∷ x ∷ xs) is
moved-more (x ∷ xs) o v d (suc m) l is =
    let e : suc m + 1 ≡ suc (m + 1) = omega arith in
    let f : suc (m + 1) ≡ suc m + 1 = omega arith in
    ap (λ ys. x ∷ ys) (moved-more xs x v d m (omega arith) (is ∙ ap (λ j. slice_index_or (x ∷ (take m xs ++ drop m (x ∷ xs))) j d) e)) ∙ ap (λ j. take j (x ∷ xs) ++ drop m xs) f

-- the element put behind those that were moved
pub moved-put : {X : Type 0} (xs : List X) (o v : X) (m : ℕ) → m ≤ length xs → slice_set (take m xs ++ drop m (o ∷ xs)) m v ≡ take m xs ++ v ∷ drop m xs
moved-put xs o v zero l = refl
moved-put [] o v (suc m) l = absurd (omega arith)
moved-put (x ∷ xs) o v (suc m) l = ap (λ ys. x ∷ ys) (moved-put xs x v m (omega arith))

-- an element put in behind the first ones
pub drop-insert : {X : Type 0} (xs : List X) (s k : ℕ) (v : X) → s ≤ length xs → drop s (insert xs (s + k) v) ≡ insert (drop s xs) k v
drop-insert xs zero k v l = ap (λ j. insert xs j v) (omega arith)
drop-insert [] (suc s) k v l = absurd (omega arith)
drop-insert (x ∷ xs) (suc s) k v l = let e : suc s + k ≡ suc (s + k) = omega arith in ap (λ j. drop (suc s) (insert (x ∷ xs) j v)) e ∙ drop-insert xs s k v (omega arith)
