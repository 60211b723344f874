-- The value of a day is new beside the values of all earlier days if and only if it is new beside
-- the different ones of these.
use Rattle.std.proofs.Common.{◌≡◌, ◌∙◌, ℕ, zero, suc, ◌+◌, ◌<◌, ◌≤◌, Bool, true, false, not, ◌&&◌, ◌||◌, if◌then◌else◌, List, [], ◌∷◌, ◌++◌, take, length, Some, slice_get, slice_index_or, refl, sym, ap, arith}
use Rattle.std.specs.Prelude.{◌↔◌, IsTrue}
use Rattle.std.specs.List.{list_any}
use Rattle.std.proofs.lemmas.List.Folds.{list_any-append}
use Rattle.ssim_periods.proofs.DayLemmas.{get-index}
use Rattle.ssim_calendar.specs.Letters.{has_value, if_new, is_new, new_on, new_values}
use Rattle.ssim_calendar.proofs.Ranges.{flat_map_more, zero_plus}

one_more : (n : ℕ) → n + 1 ≡ suc n
one_more n = omega arith

-- the first elements, and the next one
take_suc : {V : Type 0} (xs : List V) (n : ℕ) (x : V) → slice_get xs n ≡ Some x → take (suc n) xs ≡ take n xs ++ x ∷ []
take_suc [] n x e = absurd cc
take_suc (y ∷ xs) zero x e = cc
take_suc (y ∷ xs) (suc n) x e = ap (λ zs. y ∷ zs) (take_suc xs n x e)

-- an element that is there is before the end
pub there : {V : Type 0} (xs : List V) (n : ℕ) (x : V) → slice_get xs n ≡ Some x → n < length xs
there [] n x e = absurd cc
there (y ∷ xs) zero x e = omega arith
there (y ∷ xs) (suc n) x e = let h = there xs n x e in omega arith

-- ---- whether a value is among a list with one more, and whether it is new

case_yes : (a b t : Bool) → a ≡ b → t ≡ not a → (a || (true || false)) ≡ (b || (t && true))
case_yes true true t e h = refl
case_yes false false true e h = refl
case_yes false false false e h = absurd cc
case_yes true false t e h = absurd cc
case_yes false true t e h = absurd cc

case_no : (a b t : Bool) → a ≡ b → (a || (false || false)) ≡ (b || (t && false))
case_no true true t e = refl
case_no false false true e = refl
case_no false false false e = refl
case_no true false t e = absurd cc
case_no false true t e = absurd cc

any_if : {V : Type 0} (p : V → Bool) (t : Bool) (x : V) → list_any p (if t then x ∷ [] else []) ≡ (t && p x)
any_if p false x = refl
any_if p true x = any_one (p x)
  where
    any_one : (b : Bool) → (b || false) ≡ b
    any_one true = refl
    any_one false = refl

module _ {V : Type 0} (alike : V → V → Bool) (nothing : V) (exact : (x y : V) → IsTrue (alike x y) ↔ (x ≡ y)) where
  among : (v x : V) (values : List V) (b : Bool) → alike v nothing ≡ false → has_value alike values v ≡ b
      → (has_value alike values v || (alike x v || false)) ≡ (b || (is_new alike nothing values x && alike x v))
  among v x values b full same =
      elim (alike x v) as (λ (a : Bool). alike x v ≡ a → (has_value alike values v || (a || false)) ≡ (b || (is_new alike nothing values x && a))) [
        | false ↦ λ e. case_no (has_value alike values v) b (is_new alike nothing values x) same
        | true ↦ λ e.
            let is : x ≡ v = (exact x v).0 e in
            let new : is_new alike nothing values x ≡ not (has_value alike values v) =
            ap (λ (w : V). is_new alike nothing values w) is ∙ ap (λ (c : Bool). not c && not (has_value alike values v)) full in
            case_yes (has_value alike values v) b (is_new alike nothing values x) same new
      ] refl

  -- a value that is not empty is among the values of the first days if it is among the different
  -- ones of these
  pub known : (days : List V) (v : V) → alike v nothing ≡ false → (n : ℕ) → n ≤ length days
      → has_value alike (take n days) v ≡ has_value alike (new_values alike nothing days n) v
  known days v full zero h = refl
  known days v full (suc n) h =
      let x = slice_index_or days n nothing in
      let within : n < length days = omega arith in
      let at : slice_get days n ≡ Some x = get-index days n nothing within in
      let p = λ (other : V). alike other v in
      let new = new_values alike nothing days n in
      let values = take n days in
      let ih = known days v full n (omega arith) in
      let next : new_values alike nothing days (suc n) ≡ new ++ (if is_new alike nothing values x then x ∷ [] else []) =
      ap (λ (k : ℕ). new_values alike nothing days k) (sym (one_more n)) ∙ flat_map_more (new_on alike nothing days) 0 n n (zero_plus n) ∙ ap (λ o. new ++ if_new alike nothing values o) at in
      ap (λ (xs : List V). has_value alike xs v) (take_suc days n x at)
      ∙ list_any-append p values (x ∷ [])
      ∙ among v x values (has_value alike new v) full ih
      ∙ ap (λ (b : Bool). has_value alike new v || b) (sym (any_if p (is_new alike nothing values x) x))
      ∙ sym (list_any-append p new (if is_new alike nothing values x then x ∷ [] else []))
      ∙ ap (λ (xs : List V). has_value alike xs v) (sym next)

  same_new : (days : List V) (v : V) (n : ℕ) → n ≤ length days → is_new alike nothing (take n days) v ≡ is_new alike nothing (new_values alike nothing days n) v
  same_new days v n h =
      elim (alike v nothing) as (λ (a : Bool). alike v nothing ≡ a → (not a && not (has_value alike (take n days) v)) ≡ (not a && not (has_value alike (new_values alike nothing days n) v))) [
        | true ↦ λ e. refl
        | false ↦ λ e. ap not (known days v e n h)
      ] refl

  -- the different values of one day more
  pub new_more : (days values : List V) (n : ℕ) (v : V) → n ≤ length days → slice_get days n ≡ Some v → values ≡ new_values alike nothing days n
      → new_values alike nothing days (n + 1) ≡ values ++ (if is_new alike nothing values v then v ∷ [] else [])
  new_more days values n v h at are =
      flat_map_more (new_on alike nothing days) 0 n n (zero_plus n)
      ∙ ap (λ o. new_values alike nothing days n ++ if_new alike nothing (take n days) o) at
      ∙ ap (λ (b : Bool). new_values alike nothing days n ++ (if b then v ∷ [] else [])) (same_new days v n h)
      ∙ ap (λ (xs : List V). xs ++ (if is_new alike nothing xs v then v ∷ [] else [])) (sym are)
