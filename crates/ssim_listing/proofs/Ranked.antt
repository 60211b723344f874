-- A list whose ranks do not fall is its elements of the least rank, then those of the next, and so on.
-- So a stable sort by rank gives, for each rank, the elements of the rank in their old order.
use Rattle.std.proofs.Common.{◌≡◌, ◌∙◌, ℕ, suc, ◌+◌, ◌-◌, ◌<◌, ◌≤◌, ◌==◌, Bool, true, false, not, ◌&&◌, cond, List, [], ◌∷◌, ◌++◌, length, get_or, Bor, refl, sym, ap, ap₂, subst, arith}
use Rattle.std.specs.Fn.{Called, ComputesKey}
use Rattle.std.specs.List.{All, AllByRecursion as Every, filter, flat_map, range_with_len}
use Rattle.std.specs.List.Sorted.{IsNonDecreasingBy, IsStableByKey}
use Rattle.std.specs.Ordering.{is_lt, nat_cmp}
use Rattle.std.proofs.lemmas.Bool.Decides.{nat_tests}
use Rattle.std.proofs.lemmas.Fn.{always_returns_same}
use Rattle.std.proofs.lemmas.List.Elements.{filter_agree, filter_passes, recursion_from_All}
use denote.Param.Members.{Mut}
use Rattle.ssim_listing.proofs.Ranges.{none_in, same_in, split_at}

module _ {X : Type 0} (rank : X → ℕ) where
  -- the elements of a rank
  abbrev pub of_rank : List X → ℕ → List X
  of_rank xs r = filter (λ x. rank x == r) xs

  -- ranks that do not fall, from a bound on and below another
  abbrev pub Rising : ℕ → ℕ → List X → Type 0
  Rising low end [] = Unit {0}
  Rising low end (x ∷ xs) = (low ≤ rank x) × (rank x < end) × Rising (rank x) end xs

  head : (x : X) (xs : List X) → IsNonDecreasingBy rank (x ∷ xs) → (d : X) → 0 < length xs → rank x ≤ rank (get_or xs 0 d)
  head x xs up d more = up 0 1 d (omega arith) (omega arith)

  pub rising : (end low : ℕ) (xs : List X) → ((d : X) → 0 < length xs → low ≤ rank (get_or xs 0 d)) → Every (λ x. rank x < end) xs → IsNonDecreasingBy rank xs → Rising low end xs
  rising end low [] h e up = tt
  rising end low (x ∷ xs) h e up =
      (h x (omega arith), e.0, rising end (rank x) xs (head x xs up) e.1 (λ i j d le lt. up (suc i) (suc j) d (omega arith) (omega arith)))

  -- nothing has a rank below all others
  none_below : (low end r : ℕ) (xs : List X) → Rising low end xs → r < low → of_rank xs r ≡ []
  none_below low end r [] h below = refl
  none_below low end r (x ∷ xs) h below =
      let from = h.0 in
      let other : (rank x == r) ≡ false = grind (arith, nat_tests) in
      ap (λ (b : Bool). cond b (x ∷ of_rank xs r) (of_rank xs r)) other ∙ none_below (rank x) end r xs h.2 (omega arith)

  -- rank by rank, all elements
  pub by_ranks : (low n end : ℕ) (xs : List X) → low + n ≡ end → Rising low end xs → flat_map (of_rank xs) (range_with_len low n) ≡ xs
  by_ranks low n end [] e h = none_in (of_rank []) low n (λ k from to. refl)
  by_ranks low n end (x ∷ xs) e h =
      let from = h.0 in
      let to = h.1 in
      let r = rank x in
      let m = end - suc r in
      let f = of_rank (x ∷ xs) in
      let g = of_rank xs in
      let skip : (k : ℕ) → (r == k) ≡ false → f k ≡ g k = λ k other. ap (λ (b : Bool). cond b (x ∷ g k) (g k)) other in
      let take_it : f r ≡ x ∷ g r = let own : (r == r) ≡ true = grind (arith, nat_tests) in ap (λ (b : Bool). cond b (x ∷ g r) (g r)) own in
      let before : flat_map f (range_with_len low (r - low)) ≡ [] = none_in f low (r - low)
      (λ k down up. let other : (r == k) ≡ false = grind (arith, nat_tests) in skip k other ∙ none_below r end k xs h.2 (omega arith)) in
      let after : flat_map f (range_with_len (r + 1) m) ≡ flat_map g (range_with_len (r + 1) m) = same_in f g (r + 1) m
      (λ k down up. let other : (r == k) ≡ false = grind (arith, nat_tests) in skip k other) in
      split_at f low (r - low) (suc m) n r (omega arith) (omega arith)
      ∙ ap₂ (λ ys zs. ys ++ zs) before (ap₂ (λ ys zs. ys ++ zs) take_it after)
      ∙ ap (λ ys. x ∷ ys) (by_ranks r (suc m) end xs (omega arith) h.2)

  -- whether two elements tie
  tied : (a b : ℕ) → (not (is_lt (nat_cmp a b)) && not (is_lt (nat_cmp b a))) ≡ (b == a)
  tied a b = grind (arith, nat_tests)

  -- what a stable sort keeps of a rank, if an element has it
  kept_of : (xs ys : List X) (r : ℕ) (x : X) → rank x ≡ r → IsStableByKey rank nat_cmp xs ys → of_rank ys r ≡ of_rank xs r
  kept_of xs ys r x is stable =
      let test = λ (y : X). not (is_lt (nat_cmp (rank x) (rank y))) && not (is_lt (nat_cmp (rank y) (rank x))) in
      let same = λ (y : X). tied (rank x) (rank y) ∙ ap (λ (k : ℕ). rank y == k) is in
      sym (filter_agree test (λ y. rank y == r) same ys) ∙ stable x ∙ filter_agree test (λ y. rank y == r) same xs

  -- the first element of a rank
  has_rank : (xs : List X) (r : ℕ) (x : X) (later : List X) → of_rank xs r ≡ x ∷ later → rank x ≡ r
  has_rank xs r x later e =
      let passes : (rank x == r) ≡ true =
      (recursion_from_All (λ y. (rank y == r) ≡ true) (x ∷ later)
      (subst (All (λ y. (rank y == r) ≡ true)) e (filter_passes (λ y. rank y == r) xs))).0 in
      grind (arith, nat_tests)

  kept : (xs ys : List X) (r : ℕ) → IsStableByKey rank nat_cmp xs ys → of_rank ys r ≡ of_rank xs r
  kept xs ys r stable = by (of_rank xs r) (of_rank ys r) refl refl
    where
      by : (us vs : List X) → of_rank xs r ≡ us → of_rank ys r ≡ vs → of_rank ys r ≡ of_rank xs r
      by [] [] e f = f ∙ sym e
      by (x ∷ us) vs e f = kept_of xs ys r x (has_rank xs r x us e) stable
      by [] (y ∷ vs) e f = kept_of xs ys r y (has_rank ys r y vs f) stable

  -- A stable sort by rank: rank by rank the elements of the list.
  pub sorted_is : (end : ℕ) (xs ys : List X) → Every (λ x. rank x < end) ys → IsNonDecreasingBy rank ys → IsStableByKey rank nat_cmp xs ys
      → ys ≡ flat_map (of_rank xs) (range_with_len 0 end)
  sorted_is end xs ys within up stable =
      let whole : 0 + end ≡ end = omega arith in
      sym (by_ranks 0 end end ys whole (rising end 0 ys (λ d more. omega arith) within up))
      ∙ same_in (of_rank ys) (of_rank xs) 0 end (λ r from to. kept xs ys r stable)

  -- from the clause `stable` of `sort_by_key`, where each call gives the rank of the element
  pub stable_from_sort : {F : Type 0} {g : Mut F (Bor X × Unit {0}) ℕ} {f : F} (xs ys : List X)
      → ((key : X → ℕ) → ComputesKey g key f → IsStableByKey key nat_cmp xs ys)
      → ((a : Bor X × Unit {0}) (r : ℕ) (f' : F) → Called g f a r f' → (r ≡ rank a.0.now) × (f' ≡ f)) → IsStableByKey rank nat_cmp xs ys
  stable_from_sort {g = g} {f = f} xs ys stable h = stable rank (always_returns_same g (λ a r. r ≡ rank a.0.now) f h)
