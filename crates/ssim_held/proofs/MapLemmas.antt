-- Unions of finite maps, by what they have under each key.
use Rattle.std.proofs.Common.{◌≡◌, true, false, cond, List, [], ◌∷◌, ◌++◌, Option, Some, None, refl, sym, ap, ◌∙◌}
use Rattle.std.specs.declared.cmp.Ordering.{Ordering}
use Rattle.std.specs.Ordering.{eq_by_cmp}
use Rattle.std.specs.Cmp.{IsTotalOrder}
use Rattle.std.specs.FinMap.{FinMap, get, entries, find, same_map, get-from_entries, get-entries, IsAntisymmetric}
use Rattle.ssim_held.specs.Held.{union, Agree}

-- the first, and else the second
abbrev pub or_else : {X : Type 0} → Option X → Option X → Option X
or_else None b = b
or_else (Some x) b = Some x

or_else-assoc : {X : Type 0} (a b c : Option X) → or_else (or_else a b) c ≡ or_else a (or_else b c)
or_else-assoc None b c = refl
or_else-assoc (Some x) b c = refl

or_else-idem : {X : Type 0} (a : Option X) → or_else a a ≡ a
or_else-idem None = refl
or_else-idem (Some x) = refl

or_else-comm : {X : Type 0} (a b : Option X) → ((x y : X) → a ≡ Some x → b ≡ Some y → x ≡ y) → or_else a b ≡ or_else b a
or_else-comm None None h = refl
or_else-comm None (Some y) h = refl
or_else-comm (Some x) None h = refl
or_else-comm (Some x) (Some y) h = ap Some (h x y refl refl)

module _ {K X : Type 0} (R : K → K → Ordering) where
  find-++ : (es fs : List (K × X)) (q : K) → find R q (es ++ fs) ≡ or_else (find R q es) (find R q fs)
  find-++ [] fs q = refl
  find-++ (e ∷ es) fs q =
      elim (eq_by_cmp R q e.0) as (λ b. cond b (Some e.1) (find R q (es ++ fs)) ≡ or_else (cond b (Some e.1) (find R q es)) (find R q fs)) [
        | true ↦ refl
        | false ↦ find-++ es fs q
      ]

module _ {K X : Type 0} {R : K → K → Ordering} (o : IsTotalOrder R) where
  -- a union has what the first map has, and else what the second has
  pub get-union : (m n : FinMap R X) (q : K) → get (union m n) q ≡ or_else (get m q) (get n q)
  unfolding union
  get-union m n q =
      get-from_entries o (entries m ++ entries n) q ∙ find-++ R (entries m) (entries n) q
      ∙ ap (λ a. or_else a (find R q (entries n))) (sym (get-entries m q)) ∙ ap (or_else (get m q)) (sym (get-entries n q))

  module _ (same : IsAntisymmetric R) where
    pub union-assoc : (a b c : FinMap R X) → union (union a b) c ≡ union a (union b c)
    union-assoc a b c = same_map o same _ _ (λ q.
        get-union (union a b) c q ∙ ap (λ z. or_else z (get c q)) (get-union a b q) ∙ or_else-assoc (get a q) (get b q) (get c q)
        ∙ sym (get-union a (union b c) q ∙ ap (or_else (get a q)) (get-union b c q)))

    pub union-idem : (a : FinMap R X) → union a a ≡ a
    union-idem a = same_map o same _ _ (λ q. get-union a a q ∙ or_else-idem (get a q))

    pub union-comm : (a b : FinMap R X) → Agree a b → union a b ≡ union b a
    union-comm a b h = same_map o same _ _ (λ q. get-union a b q ∙ or_else-comm (get a q) (get b q) (h q) ∙ sym (get-union b a q))
