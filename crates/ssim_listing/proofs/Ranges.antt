-- What a function makes of the numbers in a row.
use Rattle.std.proofs.Common.{◌≡◌, ◌∙◌, ◌⊎◌, inl, inr, ℕ, zero, suc, ◌+◌, ◌-◌, ◌<◌, ◌≤◌, nat_lt, Bool, true, false}
use Rattle.std.proofs.Common.{List, [], ◌++◌, refl, sym, ap, ap₂, append_assoc, append-nil, arith}
use Rattle.std.specs.List.{flat_map, range_with_len}
use Rattle.std.proofs.lemmas.Bool.Decides.{nat_tests}

-- numbers of which f and g make the same
pub same_in : {Y : Type 0} (f g : ℕ → List Y) (a n : ℕ) → ((k : ℕ) → a ≤ k → k < a + n → f k ≡ g k)
    → flat_map f (range_with_len a n) ≡ flat_map g (range_with_len a n)
same_in f g a zero h = refl
same_in f g a (suc n) h =
    ap₂ (λ ys zs. ys ++ zs) (h a (omega arith) (omega arith))
    (same_in f g (a + 1) n (λ k from to. h k (omega arith) (omega arith)))

-- a row in two parts
pub split_at : {Y : Type 0} (f : ℕ → List Y) (a m n all b : ℕ) → m + n ≡ all → a + m ≡ b
    → flat_map f (range_with_len a all) ≡ flat_map f (range_with_len a m) ++ flat_map f (range_with_len b n)
split_at f a zero n all b e s =
    let whole : all ≡ n = omega arith in
    let from : a ≡ b = omega arith in
    ap₂ (λ (k c : ℕ). flat_map f (range_with_len c k)) whole from
split_at f a (suc m) n zero b e s = absurd (omega (arith, e))
split_at f a (suc m) n (suc all) b e s =
    let ih = split_at f (a + 1) m n all b (omega (arith, e)) (omega (arith, s)) in
    ap (λ ys. f a ++ ys) ih
    ∙ sym (append_assoc (f a) (flat_map f (range_with_len (a + 1) m)) (flat_map f (range_with_len b n)))

-- one number more
range_more : {Y : Type 0} (f : ℕ → List Y) (a j : ℕ) → a ≤ j
    → flat_map f (range_with_len a (j + 1 - a)) ≡ flat_map f (range_with_len a (j - a)) ++ f j
range_more f a j h =
    split_at f a (j - a) 1 (j + 1 - a) j (omega arith) (omega arith)
    ∙ ap (λ ys. flat_map f (range_with_len a (j - a)) ++ ys) (append-nil (f j))

-- a list with what the numbers so far make, and then what one more makes
pub added_next : {Y : Type 0} (f : ℕ → List Y) (old now next : List Y) (a j : ℕ) → a ≤ j
    → now ≡ old ++ flat_map f (range_with_len a (j - a)) → next ≡ now ++ f j
    → next ≡ old ++ flat_map f (range_with_len a (j + 1 - a))
added_next f old now next a j h so_far is =
    is ∙ ap (λ ys. ys ++ f j) so_far ∙ append_assoc old (flat_map f (range_with_len a (j - a))) (f j)
    ∙ ap (λ ys. old ++ ys) (sym (range_more f a j h))

-- ---- numbers of which it makes nothing

pub none_in : {Y : Type 0} (f : ℕ → List Y) (a n : ℕ) → ((k : ℕ) → a ≤ k → k < a + n → f k ≡ []) → flat_map f (range_with_len a n) ≡ []
none_in f a zero h = refl
none_in f a (suc n) h =
    ap₂ (λ ys zs. ys ++ zs) (h a (omega arith) (omega arith)) (none_in f (a + 1) n (λ k from to. h k (omega arith) (omega arith)))

-- A function that makes nothing of the numbers before `from` and of those from `end` on makes of all
-- numbers what it makes of those between.
pub window : {Y : Type 0} (f : ℕ → List Y) (from end count : ℕ) → end ≤ count → ((k : ℕ) → k < count → (k < from) ⊎ (end ≤ k) → f k ≡ [])
    → flat_map f (range_with_len 0 count) ≡ flat_map f (range_with_len from (end - from))
window {Y} f from end count within outside = by (nat_lt end from) refl
  where
    by : (b : Bool) → nat_lt end from ≡ b → flat_map f (range_with_len 0 count) ≡ flat_map f (range_with_len from (end - from))
    by true e =
        let turned : end < from = grind (arith, nat_tests) in
        let nothing : end - from ≡ 0 = omega arith in
        let out : (k : ℕ) → k < count → (k < from) ⊎ (end ≤ k) = λ k to. before k (nat_lt k from) refl in
        none_in f 0 count (λ k low to. let less : k < count = omega arith in outside k less (out k less)) ∙ ap (λ n. flat_map f (range_with_len from n)) (sym nothing)
      where
        before : (k : ℕ) (c : Bool) → nat_lt k from ≡ c → (k < from) ⊎ (end ≤ k)
        before k true early = inl (grind (arith, nat_tests))
        before k false late = inr (let after : from ≤ k = grind (arith, nat_tests) in let turned : end < from = grind (arith, nat_tests) in omega arith)
    by false e =
        let ordered : from ≤ end = grind (arith, nat_tests) in
        let first = split_at f 0 from (count - from) count from (omega arith) (omega arith) in
        let second = split_at f from (end - from) (count - end) (count - from) end (omega arith) (omega arith) in
        let none_before = none_in f 0 from (λ k low to. outside k (omega arith) (inl (omega (arith, to)))) in
        let none_after = none_in f end (count - end) (λ k low to. outside k (omega arith) (inr low)) in
        first ∙ ap₂ (λ ys zs. ys ++ zs) none_before (second ∙ ap (λ zs. flat_map f (range_with_len from (end - from)) ++ zs) none_after ∙ append-nil _)
