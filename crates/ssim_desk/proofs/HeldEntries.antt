-- What holds of each message that a map has under a key holds of each of its entries.
use Rattle.std.proofs.Common.{◌≡◌, Bool, true, false, cond, ◌&&◌, T, List, [], ◌∷◌, Some, None, refl, sym, ap, ◌∙◌}
use Rattle.std.specs.Cmp.{IsTotalOrder, eq_by_cmp_equiv}
use Rattle.std.specs.List.{AllByRecursion}
use Rattle.std.specs.Ordering.{eq_by_cmp, is_eq, is_lt}
use Rattle.std.specs.declared.cmp.Ordering.{Ordering}
use Rattle.std.specs.declared.cmp.Ordering.TheVariants.{Less, Equal, Greater}
use Rattle.std.specs.FinMap.{FinMap, IsAntisymmetric, get, get-entries, entries, entries_sorted, find, is_sorted}
use Rattle.std.specs.FinMap.Entries.{below_all}

first_part : (a b : Bool) → T (a && b) → T a
first_part true b p = tt
first_part false b p = absurd p

second_part : (a b : Bool) → T (a && b) → T b
second_part true b p = p
second_part false b p = absurd p

less_apart : (o : Ordering) → T (is_lt o) → is_eq o ≡ false
less_apart Less p = refl
less_apart Equal p = absurd p
less_apart Greater p = absurd p

tied : {K : Type 0} {R : K → K → Ordering} → IsAntisymmetric R → (q x : K) (r : Ordering) → R q x ≡ r → is_eq r ≡ true → q ≡ x
tied same q x Less e h = absurd cc
tied same q x Equal e h = same q x e
tied same q x Greater e h = absurd cc

module _ {K X : Type 0} {R : K → K → Ordering} (o : IsTotalOrder R) (same : IsAntisymmetric R) where
  not_below : (q : K) (es : List (K × X)) → T (below_all R q es) → find R q es ≡ None
  not_below q [] h = refl
  not_below q (e ∷ es) h =
      ap (λ b. cond b (Some e.1) (find R q es)) (less_apart (R q e.0) (first_part (is_lt (R q e.0)) (below_all R q es) h))
      ∙ not_below q es (second_part (is_lt (R q e.0)) (below_all R q es) h)

  -- in a list whose keys rise each entry is found under its key
  pub each_found : (P : K → X → Type 0) (es : List (K × X)) → T (is_sorted R es) → ((q : K) (x : X) → find R q es ≡ Some x → P q x) → AllByRecursion (λ (e : K × X). P e.0 e.1) es
  each_found P [] h of = tt
  each_found P (e ∷ es) h of = (
    of e.0 e.1 (ap (λ b. cond b (Some e.1) (find R e.0 es)) ((eq_by_cmp_equiv o).refl e.0)),
    each_found P es (second_part (below_all R e.0 es) (is_sorted R es) h) (λ q x is. of q x (later q x is (eq_by_cmp R q e.0) refl)),
  )
    where
      later : (q : K) (x : X) → find R q es ≡ Some x → (b : Bool) → eq_by_cmp R q e.0 ≡ b → cond b (Some e.1) (find R q es) ≡ Some x
      later q x is false apart = is
      later q x is true ties =
          let here : q ≡ e.0 = tied same q e.0 (R q e.0) refl ties in
          let none : find R q es ≡ None = ap (λ k. find R k es) here ∙ not_below e.0 es (first_part (below_all R e.0 es) (is_sorted R es) h) in
          absurd (let never : None ≡ Some x = sym none ∙ is in cc)

  pub each_entry : (P : K → X → Type 0) (m : FinMap R X) → ((q : K) (x : X) → get m q ≡ Some x → P q x) → AllByRecursion (λ (e : K × X). P e.0 e.1) (entries m)
  each_entry P m of = each_found P (entries m) (entries_sorted m) (λ q x is. of q x (get-entries m q ∙ is))
