-- Lists made of the numbers from one on, with one number more.
use Rattle.std.proofs.Common.{◌≡◌, ◌∙◌, ℕ, zero, suc, ◌+◌, List, ◌++◌, sym, ap, append_assoc, append-nil, arith}
use Rattle.std.specs.List.{flat_map, range_with_len}

more_from : {X : Type 0} (f : ℕ → List X) (a n : ℕ) → flat_map f (range_with_len a (suc n)) ≡ flat_map f (range_with_len a n) ++ f (a + n)
more_from f a zero = append-nil (f a) ∙ ap f (here a)
  where
    here : (a : ℕ) → a ≡ a + 0
    here a = omega arith
more_from f a (suc n) =
    ap (λ xs. f a ++ xs) (more_from f (a + 1) n)
    ∙ sym (append_assoc (f a) (flat_map f (range_with_len (a + 1) n)) (f (a + 1 + n)))
    ∙ ap (λ k. (f a ++ flat_map f (range_with_len (a + 1) n)) ++ f k) (next a n)
  where
    next : (a n : ℕ) → a + 1 + n ≡ a + suc n
    next a n = omega arith

pub zero_plus : (n : ℕ) → 0 + n ≡ n
zero_plus n = omega arith

one_more : (n : ℕ) → n + 1 ≡ suc n
one_more n = omega arith

-- what the numbers from a on make, with one number more
pub flat_map_more : {X : Type 0} (f : ℕ → List X) (a n j : ℕ) → a + n ≡ j → flat_map f (range_with_len a (n + 1)) ≡ flat_map f (range_with_len a n) ++ f j
flat_map_more f a n j e =
    ap (λ (k : ℕ). flat_map f (range_with_len a k)) (one_more n) ∙ more_from f a n ∙ ap (λ (k : ℕ). flat_map f (range_with_len a n) ++ f k) e
