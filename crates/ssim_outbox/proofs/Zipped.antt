-- Two lists whose elements at each place are related, by their first elements.
use Rattle.std.proofs.Common.{◌≡◌, ◌<◌, ◌≤◌, ◌+◌, ◌∙◌, ℕ, zero, suc, List, [], ◌∷◌, ◌++◌, length, take, refl, ap, subst, sym}
use Rattle.std.proofs.Common.{add-one, arith, get_or, take_all}
use Rattle.std.specs.List.{AllZip}

-- the element at a place is related to one that comes next
pub record Next {X Y : Type 0} (R : X → Y → Type 0) (xs : List X) (k : ℕ) (y : Y) : Type 0 where
  pub x : X
  pub has : R x y
  pub more : take (k + 1) xs ≡ take k xs ++ x ∷ []

at : {X Y : Type 0} (R : X → Y → Type 0) (xs : List X) (ys : List Y) (k : ℕ) (y : Y) → AllZip R xs ys
    → k < length ys → y ≡ get_or ys k y
    → (x : X) × R x y × (take (suc k) xs ≡ take k xs ++ x ∷ [])
at R xs [] k y h lt is = absurd (omega (arith, lt))
at R [] (z ∷ ys) k y h lt is = absurd h
at R (x ∷ xs) (z ∷ ys) zero y h lt is = (x, subst (R x) (sym is) h.0, refl)
at R (x ∷ xs) (z ∷ ys) (suc k) y h lt is =
    let r = at R xs ys k y h.1 (omega (arith, lt)) is in
    (r.0, r.1, ap (λ l. x ∷ l) r.2)

pub next : {X Y : Type 0} (R : X → Y → Type 0) (xs : List X) (ys : List Y) (k : ℕ) (y : Y)
    → AllZip R xs ys → k < length ys → y ≡ get_or ys k y → Next R xs k y
next R xs ys k y h lt is =
    let r = at R xs ys k y h lt is in
    record { x = r.0; has = r.1; more = ap (λ (n : ℕ). take n xs) (add-one k) ∙ r.2 }

long : {X Y : Type 0} (R : X → Y → Type 0) (xs : List X) (ys : List Y) → AllZip R xs ys
    → length xs ≡ length ys
long R [] [] h = refl
long R [] (y ∷ ys) h = absurd h
long R (x ∷ xs) [] h = absurd h
long R (x ∷ xs) (y ∷ ys) h = ap (λ (n : ℕ). suc n) (long R xs ys h.1)

-- all elements, as many as there are in the other list
pub whole : {X Y : Type 0} (R : X → Y → Type 0) (xs : List X) (ys : List Y) (k : ℕ) → AllZip R xs ys
    → length ys ≤ k → take k xs ≡ xs
whole R xs ys k h le = take_all k xs (omega (arith, le, long R xs ys h))

-- the first element, and the later ones
pub record First {X Y : Type 0} (R : X → Y → Type 0) (xs : List X) (y : Y) (ys : List Y) : Type 0 where
  pub x : X
  pub later : List X
  pub whole_is : xs ≡ x ∷ later
  pub has : R x y
  pub later_have : AllZip R later ys

pub first : {X Y : Type 0} (R : X → Y → Type 0) (xs : List X) (y : Y) (ys : List Y)
    → AllZip R xs (y ∷ ys) → First R xs y ys
first R [] y ys h = absurd h
first R (x ∷ xs) y ys h =
    record { x = x; later = xs; whole_is = refl; has = h.0; later_have = h.1 }

pub none : {X Y : Type 0} (R : X → Y → Type 0) (xs : List X) → AllZip R xs [] → xs ≡ []
none R [] h = refl
none R (x ∷ xs) h = absurd h
