-- Collecting values from one list after another.
use Rattle.std.proofs.Common.{◌≡◌, ℕ, zero, suc, ◌+◌, ◌<◌, ◌≤◌, Bool, ◌||◌, if◌then◌else◌, List, [], ◌∷◌, ◌++◌, length, get_or, drop, map, add-one, refl, ap, sym, arith}
use Rattle.std.specs.List.{list_any, flat_map}
use Rattle.ssim_periods.specs.internal.Gather.{gathered}

pub gathered-append : {V : Type 0} (alike : V → V → Bool) (nothing : V) (known xs ys : List V) → gathered alike nothing known (xs ++ ys) ≡ gathered alike nothing (gathered alike nothing known xs) ys
gathered-append alike nothing known [] ys = refl
gathered-append alike nothing known (x ∷ xs) ys = gathered-append alike nothing (if alike x nothing || list_any (alike x) known then known else known ++ x ∷ []) xs ys

-- the rows from one on
pub rows-next : {V : Type 0} (rows : List (List V)) (i : ℕ) (row : List V) → i < length rows → row ≡ get_or rows i row → flat_map (λ r. r) (drop i rows) ≡ row ++ flat_map (λ r. r) (drop (i + 1) rows)
rows-next [] i row h e = absurd (omega arith)
rows-next (r ∷ rows) zero row h e = ap (λ l. l ++ flat_map (λ r. r) rows) (sym e)
rows-next (r ∷ rows) (suc i) row h e = rw add-one (rw add-one at (rows-next rows i row (omega arith) e))

-- what a list of values gives from one on
pub flat-next : {X Y Z : Type 0} (f : X → Y) (g : Y → List Z) (xs : List X) (i : ℕ) (x : X) → i < length xs → x ≡ get_or xs i x → flat_map g (map f (drop i xs)) ≡ g (f x) ++ flat_map g (map f (drop (i + 1) xs))
flat-next f g [] i x h e = absurd (omega arith)
flat-next f g (y ∷ xs) zero x h e = ap (λ z. g (f z) ++ flat_map g (map f xs)) (sym e)
flat-next f g (y ∷ xs) (suc i) x h e = rw add-one (rw add-one at (flat-next f g xs i x (omega arith) e))

pub drop-all : {X : Type 0} (xs : List X) (n : ℕ) → length xs ≤ n → drop n xs ≡ []
drop-all [] zero h = refl
drop-all [] (suc n) h = refl
drop-all (x ∷ xs) zero h = absurd (omega arith)
drop-all (x ∷ xs) (suc n) h = drop-all xs n (omega arith)
