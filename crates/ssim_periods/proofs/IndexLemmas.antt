-- The index of a value when one more value is added, and what has it: the map that got its key, and
-- its number.
use Rattle.std.proofs.Common.{◌≡◌, ℕ, suc, ◌<◌, arith, Bool, true, false, cond, ◌||◌, if◌then◌else◌, Option, Some, None, option_map, List, [], ◌∷◌, ◌++◌, length, slice_get, refl, ap, sym, ◌∙◌, IsTrue, ◌↔◌}
use Rattle.std.specs.BTreeMap.{BTreeMap, get, Updates}
use Rattle.std.specs.List.{list_any}
use Rattle.std.specs.Ordering.{is_eq, on}
use Rattle.std.specs.declared.cmp.Ordering.{Ordering}
use Rattle.ssim_periods.specs.Distinct.{index_of}
use Rattle.ssim_periods.specs.internal.Gather.{ArePlaced}
use Rattle.ssim_periods.proofs.PieceLaw.{alike-turned}

none-within : (found : Option ℕ) → option_map suc found ≡ None → found ≡ None
none-within None h = refl
none-within (Some n) h = cc

-- a value without an index is not like the first, and has none among the others
none-first : {V : Type 0} (alike : V → V → Bool) (x : V) (xs : List V) (v : V) → index_of alike (x ∷ xs) v ≡ None → (alike x v ≡ false) × (index_of alike xs v ≡ None)
none-first alike x xs v h = by (alike x v) refl
  where
    by : (b : Bool) → alike x v ≡ b → (alike x v ≡ false) × (index_of alike xs v ≡ None)
    by true e = let bad : Some 0 ≡ None = ap (λ b. if b then Some 0 else option_map suc (index_of alike xs v)) (sym e) ∙ h in cc
    by false e = (e, none-within (index_of alike xs v) (ap (λ b. if b then Some 0 else option_map suc (index_of alike xs v)) (sym e) ∙ h))

-- the indices with one more value
index_of-push : {V : Type 0} (alike : V → V → Bool) → ((x y : V) → IsTrue (alike x y) ↔ (x ≡ y)) → (xs : List V) (v w : V) → index_of alike xs v ≡ None → index_of alike (xs ++ v ∷ []) w ≡ cond (alike v w) (Some (length xs)) (index_of alike xs w)
index_of-push alike exact [] v w h = by (alike v w)
  where
    one : Option ℕ
    one = Some 0

    by : (b : Bool) → (if b then one else None) ≡ cond b one None
    by true = refl
    by false = refl
index_of-push {V} alike exact (x ∷ xs) v w h =
    let first = none-first alike x xs v h in
    ap (λ found. if alike x w then Some 0 else option_map suc found) (index_of-push alike exact xs v w first.1) ∙ by (alike v w) refl first.0
  where
    step : Option ℕ → Option ℕ
    step found = if alike x w then Some 0 else option_map suc found

    by : (b : Bool) → alike v w ≡ b → alike x v ≡ false → step (cond (alike v w) (Some (length xs)) (index_of alike xs w)) ≡ cond (alike v w) (Some (suc (length xs))) (step (index_of alike xs w))
    by true e off =
        let same : v ≡ w = (exact v w).0 e in let apart : alike x w ≡ false = ap (alike x) (sym same) ∙ off in
        ap (λ b. step (cond b (Some (length xs)) (index_of alike xs w))) e ∙ ap (λ b. if b then Some 0 else Some (suc (length xs))) apart ∙ ap (λ b. cond b (Some (suc (length xs))) (step (index_of alike xs w))) (sym e)
    by false e off = ap (λ b. step (cond b (Some (length xs)) (index_of alike xs w))) e ∙ ap (λ b. cond b (Some (suc (length xs))) (step (index_of alike xs w))) (sym e)

-- a map gets the key of one more value
pub placed-push : {K V : Type 0} (alike : V → V → Bool) (compared : V → V → Ordering) (value_at : K → V) → ((x y : V) → IsTrue (alike x y) ↔ (x ≡ y)) → ((x y : V) → alike x y ≡ is_eq (compared x y)) → (xs more : List V) (v : V) (n : ℕ) (own : K) (old new : BTreeMap K ℕ) → value_at own ≡ v → n ≡ length xs → more ≡ xs ++ v ∷ [] → index_of alike xs v ≡ None → Updates (on value_at compared) old new own (Some n) → ArePlaced alike compared value_at xs old → ArePlaced alike compared value_at more new
placed-push alike compared value_at exact told xs more v n own old new own_is n_is more_is none updates placed key =
    let w = value_at key in
    updates.0 key
    ∙ ap (λ b. cond b (Some n) (get (on value_at compared) old key)) (sym (told (value_at own) w))
    ∙ ap (λ x. cond (alike x w) (Some n) (get (on value_at compared) old key)) own_is
    ∙ ap (cond (alike v w) (Some n)) (placed key)
    ∙ ap (λ k. cond (alike v w) (Some k) (index_of alike xs w)) n_is
    ∙ sym (index_of-push alike exact xs v w none)
    ∙ ap (λ l. index_of alike l w) (sym more_is)

-- the value at the index of a value is that value
pub index_of-get : {V : Type 0} (alike : V → V → Bool) → ((x y : V) → IsTrue (alike x y) ↔ (x ≡ y)) → (xs : List V) (v : V) (n : ℕ) → index_of alike xs v ≡ Some n → slice_get xs n ≡ Some v
index_of-get alike exact [] v n h = cc
index_of-get {V} alike exact (x ∷ xs) v n h = by (alike x v) (λ m e. index_of-get alike exact xs v m e) refl
  where
    rest : (found : Option ℕ) (k : ℕ) → ((m : ℕ) → found ≡ Some m → slice_get xs m ≡ Some v) → option_map suc found ≡ Some k → slice_get (x ∷ xs) k ≡ Some v
    rest None k later s = cc
    rest (Some m) k later s = let at : suc m ≡ k = cc in ap (slice_get (x ∷ xs)) (sym at) ∙ later m refl

    by : (b : Bool) → ((m : ℕ) → index_of alike xs v ≡ Some m → slice_get xs m ≡ Some v) → alike x v ≡ b → slice_get (x ∷ xs) n ≡ Some v
    by true later e =
        let first : Some 0 ≡ Some n = ap (λ b. if b then Some 0 else option_map suc (index_of alike xs v)) (sym e) ∙ h in
        let at : 0 ≡ n = cc in ap (slice_get (x ∷ xs)) (sym at) ∙ ap Some ((exact x v).0 e)
    by false later e = rest (index_of alike xs v) n later (ap (λ b. if b then Some 0 else option_map suc (index_of alike xs v)) (sym e) ∙ h)

-- a value without an index is none of the others
pub index_of-none : {V : Type 0} (alike : V → V → Bool) → ((x y : V) → IsTrue (alike x y) ↔ (x ≡ y)) → (xs : List V) (v : V) → index_of alike xs v ≡ None → list_any (alike v) xs ≡ false
index_of-none alike exact [] v h = refl
index_of-none alike exact (x ∷ xs) v h = let first = none-first alike x xs v h in ap (λ b. b || list_any (alike v) xs) (alike-turned alike exact v x ∙ first.0) ∙ index_of-none alike exact xs v first.1

-- an index is below the number of values
pub index_of-within : {V : Type 0} (alike : V → V → Bool) (xs : List V) (v : V) (n : ℕ) → index_of alike xs v ≡ Some n → n < length xs
index_of-within alike [] v n h = cc
index_of-within {V} alike (x ∷ xs) v n h = by (alike x v) (λ m e. index_of-within alike xs v m e) refl
  where
    rest : (found : Option ℕ) (k : ℕ) → ((m : ℕ) → found ≡ Some m → m < length xs) → option_map suc found ≡ Some k → k < suc (length xs)
    rest None k later s = cc
    rest (Some m) k later s = let at : suc m ≡ k = cc in let low = later m refl in omega arith

    by : (b : Bool) → ((m : ℕ) → index_of alike xs v ≡ Some m → m < length xs) → alike x v ≡ b → n < suc (length xs)
    by true later e =
        let first : Some 0 ≡ Some n = ap (λ b. if b then Some 0 else option_map suc (index_of alike xs v)) (sym e) ∙ h in
        let at : 0 ≡ n = cc in omega arith
    by false later e = rest (index_of alike xs v) n later (ap (λ b. if b then Some 0 else option_map suc (index_of alike xs v)) (sym e) ∙ h)
