-- A value has an index if and only if it is one of the values, and its index is its place.
use Rattle.std.proofs.Common.{◌≡◌, ◌∙◌, ℕ, suc, ◌+◌, Bool, true, false, not, ◌&&◌, ◌||◌, if◌then◌else◌}
use Rattle.std.proofs.Common.{List, [], ◌∷◌, Option, Some, None, length, unwrap_or, refl, sym, ap}
use Rattle.std.proofs.Common.{true≢false, arith}
use Rattle.std.specs.Prelude.{◌↔◌, IsTrue, is_some, option_map}
use Rattle.ssim_periods.specs.Distinct.{index_of}
use Rattle.ssim_calendar.specs.Letters.{has_value, is_new, place_of}

module _ {V : Type 0} (alike : V → V → Bool) where
  some_suc : (found : Option ℕ) → is_some found ≡ is_some (option_map suc found)
  some_suc None = refl
  some_suc (Some n) = refl

  -- whether a value is one of these
  pub has_index : (values : List V) (v : V)
      → has_value alike values v ≡ is_some (index_of alike values v)
  has_index [] v = refl
  has_index (x ∷ values) v = by (has_index values v) (alike x v)
    where
      by : has_value alike values v ≡ is_some (index_of alike values v) → (b : Bool)
          → (b || has_value alike values v) ≡ is_some
          (if b then Some 0 else option_map suc (index_of alike values v))
      by later true = refl
      by later false = later ∙ some_suc (index_of alike values v)

  one_later : (found : Option ℕ) (n : ℕ)
      → 1 + unwrap_or found n ≡ unwrap_or (option_map suc found) (suc n)
  one_later None n = omega arith
  one_later (Some k) n = omega arith

  -- the place of a value among these
  pub place_is : (values : List V) (v : V)
      → place_of alike values v ≡ unwrap_or (index_of alike values v) (length values)
  place_is [] v = refl
  place_is (x ∷ values) v = by (place_is values v) (alike x v)
    where
      by : place_of alike values v ≡ unwrap_or (index_of alike values v) (length values) → (b : Bool)
          → (if not b then 1 + place_of alike values v else 0) ≡ unwrap_or
          (if b then Some 0 else option_map suc (index_of alike values v)) (suc (length values))
      by later true = refl
      by later false =
          ap (λ (n : ℕ). 1 + n) later ∙ one_later (index_of alike values v) (length values)

  -- whether a value that is not empty is new beside these
  pub new_without : (nothing : V) (values : List V) (v : V) (found : Option ℕ)
      → alike v nothing ≡ false → found ≡ index_of alike values v
      → is_new alike nothing values v ≡ not (is_some found)
  new_without nothing values v found full is =
      ap (λ (b : Bool). not b && not (has_value alike values v)) full
      ∙ ap not (has_index values v ∙ ap is_some (sym is))

  -- a value that is not the empty one is not like it
  pub not_alike : ((x y : V) → IsTrue (alike x y) ↔ (x ≡ y)) → (v nothing : V) (empty : Bool)
      → IsTrue empty ↔ (v ≡ nothing) → empty ≡ false → alike v nothing ≡ false
  not_alike exact v nothing empty same is = by (alike v nothing) refl
    where
      by : (b : Bool) → alike v nothing ≡ b → b ≡ false
      by true e = absurd (true≢false (sym (same.1 ((exact v nothing).0 e)) ∙ is))
      by false e = refl
