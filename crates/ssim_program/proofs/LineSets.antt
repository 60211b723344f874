-- A set of lines after one more line was put into it: by induction on the keys of the set, in order.
use Rattle.std.proofs.Common.{◌≡◌, ◌∙◌, Bool, true, false, ◌||◌, ℕ, List, [], ◌∷◌, Vec, refl, sym, ap}
use Rattle.std.specs.BTreeMap.{is_at}
use Rattle.std.specs.BTreeSet.{insert_key}
use Rattle.std.specs.Cmp.Lexicographic.{slice_cmp}
use Rattle.std.specs.List.{list_any}
use Rattle.std.specs.Ordering.{is_eq, match_ordering, nat_cmp}
use Rattle.std.specs.Str.{bytes_eq}
use Rattle.std.specs.declared.cmp.Ordering.{Ordering}
use Rattle.std.specs.declared.cmp.Ordering.TheVariants.{Less, Equal, Greater}
use Rattle.std.proofs.lemmas.Map.Text.{is_eq-slice_cmp}
use Rattle.std.proofs.lemmas.Slice.Eq.{bytes_eq-Decides}

-- ---- either of two

pub or_none : (a : Bool) → (a || false) ≡ a
or_none true = refl
or_none false = refl

turned : (a b : Bool) → (a || b) ≡ (b || a)
turned true true = refl
turned true false = refl
turned false b = sym (or_none b)

grouped : (a b d : Bool) → (a || (b || d)) ≡ ((a || b) || d)
grouped true b d = refl
grouped false b d = refl

there_already : (a b : Bool) → (a || b) ≡ ((a || b) || a)
there_already true b = refl
there_already false b = sym (or_none b)

-- ---- keys

module _ {A : Type 0} (text : List ℕ) (key : Vec ℕ A) where
  abbrev vec_cmp : Vec ℕ A → Vec ℕ A → Ordering
  vec_cmp x y = slice_cmp nat_cmp x.items y.items

  abbrev pub at : Vec ℕ A → Bool
  at = is_at (λ k. slice_cmp nat_cmp text k.items)

  -- a key is there as its text
  at_is : (k : Vec ℕ A) → at k ≡ bytes_eq text k.items
  at_is k = is_eq-slice_cmp text k.items

  pub put_in : (keys : List (Vec ℕ A))
      → list_any at (insert_key vec_cmp keys key) ≡ (list_any at keys || bytes_eq text key.items)
  put_in [] = or_none (at key) ∙ at_is key
  put_in (x ∷ keys) = by (vec_cmp key x) refl (put_in keys)
    where
      by : (o : Ordering) → vec_cmp key x ≡ o
          → list_any at (insert_key vec_cmp keys key) ≡ (list_any at keys || bytes_eq text key.items)
          → list_any at (match_ordering o (key ∷ x ∷ keys) (x ∷ keys) (x ∷ insert_key vec_cmp keys key))
          ≡ ((at x || list_any at keys) || bytes_eq text key.items)
      by Less is later =
          ap (λ (b : Bool). b || (at x || list_any at keys)) (at_is key)
          ∙ turned (bytes_eq text key.items) (at x || list_any at keys)
      by Equal is later =
          let same : key.items ≡ x.items =
          (bytes_eq-Decides key.items x.items).0 (sym (is_eq-slice_cmp key.items x.items) ∙ ap is_eq is) in
          there_already (at x) (list_any at keys)
          ∙ ap (λ (b : Bool). (at x || list_any at keys) || b)
          (at_is x ∙ ap (bytes_eq text) (sym same))
      by Greater is later =
          ap (λ (b : Bool). at x || b) later
          ∙ grouped (at x) (list_any at keys) (bytes_eq text key.items)
