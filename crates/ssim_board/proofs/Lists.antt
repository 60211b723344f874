-- Lists made of the elements of another list, or of the numbers of a range.
use Rattle.std.proofs.Common.{◌≡◌, ◌∙◌, ◌⊎◌, inl, inr, ℕ, zero, suc, ◌+◌, ◌-◌, ◌<◌, ◌≤◌, nat_lt}
use Rattle.std.proofs.Common.{Bool, true, false, List, [], ◌∷◌, ◌++◌, refl, sym, ap, ap₂, append-nil, arith}
use Rattle.std.specs.List.{AllByRecursion as Every, flat_map, range_with_len}
use Rattle.std.proofs.lemmas.Bool.Decides.{nat_tests}
use Rattle.ssim_listing.proofs.Ranges.{split_at}

-- ---- a property of each element, by recursion

pub every_append : {X : Type 0} (P : X → Type 0) (xs ys : List X) → Every P xs → Every P ys → Every P (xs ++ ys)
every_append P [] ys h k = k
every_append P (x ∷ xs) ys h k = (h.0, every_append P xs ys h.1 k)

pub every_made : {X Y : Type 0} (P : Y → Type 0) (f : X → List Y) (xs : List X) → ((x : X) → Every P (f x)) → Every P (flat_map f xs)
every_made P f [] h = tt
every_made P f (x ∷ xs) h = every_append P (f x) (flat_map f xs) (h x) (every_made P f xs h)

-- ---- what functions make of a list

pub same_made : {X Y : Type 0} (f g : X → List Y) (xs : List X) → ((x : X) → f x ≡ g x) → flat_map f xs ≡ flat_map g xs
same_made f g [] h = refl
same_made f g (x ∷ xs) h = ap₂ (λ ys zs. ys ++ zs) (h x) (same_made f g xs h)

pub none_made : {X Y : Type 0} (f : X → List Y) (xs : List X) → ((x : X) → f x ≡ []) → flat_map f xs ≡ []
none_made f [] h = refl
none_made f (x ∷ xs) h = ap₂ (λ ys zs. ys ++ zs) (h x) (none_made f xs h)

-- ---- what functions make of a range

pub none_in : {Y : Type 0} (f : ℕ → List Y) (a n : ℕ) → ((k : ℕ) → a ≤ k → k < a + n → f k ≡ []) → flat_map f (range_with_len a n) ≡ []
none_in f a zero h = refl
none_in f a (suc n) h =
    ap₂ (λ ys zs. ys ++ zs) (h a (omega arith) (omega arith)) (none_in f (a + 1) n (λ k from to. h k (omega arith) (omega arith)))

-- A function that makes nothing of the numbers before `from` and of those from `end` on makes of all
-- numbers what it makes of those between.
pub window : {Y : Type 0} (f : ℕ → List Y) (from end count : ℕ) → end ≤ count → ((k : ℕ) → k < count → (k < from) ⊎ (end ≤ k) → f k ≡ [])
    → flat_map f (range_with_len 0 count) ≡ flat_map f (range_with_len from (end - from))
window {Y} f from end count within outside = by (nat_lt end from) refl
  where
    by : (b : Bool) → nat_lt end from ≡ b → flat_map f (range_with_len 0 count) ≡ flat_map f (range_with_len from (end - from))
    by true e =
        let turned : end < from = grind (arith, nat_tests) in
        let nothing : end - from ≡ 0 = omega arith in
        let out : (k : ℕ) → k < count → (k < from) ⊎ (end ≤ k) = λ k to. before k (nat_lt k from) refl in
        none_in f 0 count (λ k low to. let less : k < count = omega arith in outside k less (out k less)) ∙ ap (λ n. flat_map f (range_with_len from n)) (sym nothing)
      where
        before : (k : ℕ) (c : Bool) → nat_lt k from ≡ c → (k < from) ⊎ (end ≤ k)
        before k true early = inl (grind (arith, nat_tests))
        before k false late = inr (let after : from ≤ k = grind (arith, nat_tests) in let turned : end < from = grind (arith, nat_tests) in omega arith)
    by false e =
        let ordered : from ≤ end = grind (arith, nat_tests) in
        let first = split_at f 0 from (count - from) count from (omega arith) (omega arith) in
        let second = split_at f from (end - from) (count - end) (count - from) end (omega arith) (omega arith) in
        let none_before = none_in f 0 from (λ k low to. outside k (omega arith) (inl (omega (arith, to)))) in
        let none_after = none_in f end (count - end) (λ k low to. outside k (omega arith) (inr low)) in
        first ∙ ap₂ (λ ys zs. ys ++ zs) none_before (second ∙ ap (λ zs. flat_map f (range_with_len from (end - from)) ++ zs) none_after ∙ append-nil _)

-- one number more of a range is not past its end
pub within_next : (n from end : ℕ) → from ≤ n → n < end → n + 1 - from ≤ end - from
within_next n from end begun lt = omega arith
