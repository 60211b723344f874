-- Entries that are done, since a later one has their value.
use Rattle.std.proofs.Common.{◌≡◌, ℕ, zero, suc, ◌+◌, ◌<◌, ◌≤◌, ◌||◌, Bool, true, false, List, [], ◌∷◌, length, take, drop, slice_get, slice_index_or, slice_set, Some, refl, ap, sym, ◌∙◌, arith, inl, inr, IsTrue, ◌↔◌}
use Rattle.std.proofs.Math.Bool.{or-true}
use Rattle.std.specs.List.{list_any}
use Rattle.std.proofs.lemmas.List.{drop_more}
use Rattle.ssim_values.specs.Period.{DayRange}
use Rattle.ssim_periods.proofs.CoverLemmas.{same_or_less}
use Rattle.ssim_periods.proofs.DayLemmas.{index-get, get-index}
use Rattle.ssim_periods.proofs.RowLemmas.{index-default}
use Rattle.ssim_periods.proofs.PieceLaw.{alike-turned}

-- ---- a list in which one more test is set

index-set : (xs : List Bool) (j : ℕ) (b : Bool) → j < length xs → slice_index_or (slice_set xs j b) j false ≡ b
index-set [] j b l = absurd (omega arith)
index-set (x ∷ xs) zero b l = refl
index-set (x ∷ xs) (suc j) b l = index-set xs j b (omega arith)

index-other : (xs : List Bool) (j i : ℕ) (b : Bool) → (i ≡ j → ⊥) → slice_index_or (slice_set xs j b) i false ≡ slice_index_or xs i false
index-other [] j i b other = refl
index-other (x ∷ xs) zero zero b other = absurd (other refl)
index-other (x ∷ xs) zero (suc i) b other = refl
index-other (x ∷ xs) (suc j) zero b other = refl
index-other (x ∷ xs) (suc j) (suc i) b other = index-other xs j i b (λ e. other (ap suc e))

-- from the place on, the entries with the value are done too; before it all is as it was
pub record AreMarked {V : Type 0} (alike : V → V → Bool) (v : V) (xs : List (DayRange × V)) (old now : List Bool) (place : ℕ) : Type 0 where
  pub marked : (i : ℕ) (x : DayRange × V) → place ≤ i → slice_get xs i ≡ Some x → slice_index_or now i false ≡ (slice_index_or old i false || alike v x.1)
  pub kept : (i : ℕ) → i < place → slice_index_or now i false ≡ slice_index_or old i false

get-within : {X : Type 0} (xs : List X) (i : ℕ) (x : X) → slice_get xs i ≡ Some x → i < length xs
get-within [] i x at = absurd cc
get-within (y ∷ xs) zero x at = omega arith
get-within (y ∷ xs) (suc i) x at = let l = get-within xs i x at in omega arith

pub marked-none : {V : Type 0} (alike : V → V → Bool) (v : V) (xs : List (DayRange × V)) (old : List Bool) → AreMarked alike v xs old old (length xs)
marked-none alike v xs old = record {
  marked = λ i x from at. let l = get-within xs i x at in absurd (omega arith);
  kept = λ i before. refl;
}

-- one more entry that is as it was
pub marked-kept : {V : Type 0} (alike : V → V → Bool) (v : V) (xs : List (DayRange × V)) (old now : List Bool) (i j : ℕ) (x : DayRange × V) → j + 1 ≡ i → x ≡ slice_index_or xs j x → AreMarked alike v xs old now i → slice_index_or now j false ≡ (slice_index_or old j false || alike v x.1) → AreMarked alike v xs old now j
marked-kept alike v xs old now i j x up is m own =
    record {
      marked = λ k y from at. elim (same_or_less j k from) [
        | inl here ↦
            let same : x ≡ y = is ∙ ap (λ n. slice_index_or xs n x) here ∙ index-get xs k y x at in
            ap (λ n. slice_index_or now n false) (sym here) ∙ own ∙ ap (λ z. slice_index_or old j false || alike v z.1) same ∙ ap (λ n. slice_index_or old n false || alike v y.1) here
        | inr later ↦ m.marked k y (omega arith) at
      ];
      kept = λ k before. m.kept k (omega arith);
    }

-- one more entry with the value
pub marked-set : {V : Type 0} (alike : V → V → Bool) (v : V) (xs : List (DayRange × V)) (old now : List Bool) (i j : ℕ) (x : DayRange × V) → j + 1 ≡ i → j < length now → x ≡ slice_index_or xs j x → AreMarked alike v xs old now i → alike v x.1 ≡ true → AreMarked alike v xs old (slice_set now j true) j
marked-set alike v xs old now i j x up lt is m same =
    record {
      marked = λ k y from at. elim (same_or_less j k from) [
        | inl here ↦
            let own : x ≡ y = is ∙ ap (λ n. slice_index_or xs n x) here ∙ index-get xs k y x at in
            ap (λ n. slice_index_or (slice_set now j true) n false) (sym here) ∙ index-set now j true lt
            ∙ sym (ap (λ z. slice_index_or old k false || alike v z.1) (sym own) ∙ ap (λ b. slice_index_or old k false || b) same ∙ or-true (slice_index_or old k false))
        | inr later ↦ index-other now j k true (λ e. absurd (omega arith)) ∙ m.marked k y (omega arith) at
      ];
      kept = λ k before. index-other now j k true (λ e. absurd (omega arith)) ∙ m.kept k (omega arith);
    }

-- ---- the entries before a place

pub get-take : {X : Type 0} (xs : List X) (j i : ℕ) (x : X) → slice_get (take j xs) i ≡ Some x → (i < j) × (slice_get xs i ≡ Some x)
get-take xs zero i x at = absurd cc
get-take [] (suc j) i x at = absurd cc
get-take (y ∷ xs) (suc j) zero x at = (omega arith, at)
get-take (y ∷ xs) (suc j) (suc i) x at = let r = get-take xs j i x at in let l = r.0 in (omega arith, r.1)

pub take-get : {X : Type 0} (xs : List X) (j i : ℕ) (x : X) → i < j → slice_get xs i ≡ Some x → slice_get (take j xs) i ≡ Some x
take-get xs zero i x l at = absurd (omega arith)
take-get [] (suc j) i x l at = at
take-get (y ∷ xs) (suc j) zero x l at = at
take-get (y ∷ xs) (suc j) (suc i) x l at = take-get xs j i x (omega arith) at

-- ---- an entry is done if a later one has its value

abbrev pub has_later : {V : Type 0} → (V → V → Bool) → List (DayRange × V) → ℕ → V → Bool
has_later alike xs place v = list_any (λ other. alike v other.1) (drop place xs)

later-next : {V : Type 0} (alike : V → V → Bool) (xs : List (DayRange × V)) (i j : ℕ) (x : DayRange × V) (v : V) → j + 1 ≡ i → j < length xs → x ≡ slice_index_or xs j x → has_later alike xs j v ≡ (alike v x.1 || has_later alike xs i v)
later-next alike xs i j x v up lt is =
    ap (list_any (λ other. alike v other.1)) (drop_more xs j x lt ∙ ap (λ k. slice_index_or xs j x ∷ drop k xs) up ∙ ap (λ y. y ∷ drop i xs) (sym is))

-- an entry that is not done has another value than those that are
pub other-value : {V : Type 0} (alike : V → V → Bool) → ((x y : V) → IsTrue (alike x y) ↔ (x ≡ y)) → (xs : List (DayRange × V)) (i : ℕ) (v w : V) → has_later alike xs i v ≡ false → has_later alike xs i w ≡ true → alike v w ≡ false
other-value {V} alike exact xs i v w none some = by (alike v w) refl
  where
    by : (b : Bool) → alike v w ≡ b → b ≡ false
    by false e = refl
    by true e = let same : v ≡ w = (exact v w).0 e in let bad = sym none ∙ ap (has_later alike xs i) same ∙ some in cc

-- the next entry is done: so no other entry becomes done
pub later-done : {V : Type 0} (alike : V → V → Bool) → ((x y : V) → IsTrue (alike x y) ↔ (x ≡ y)) → (xs : List (DayRange × V)) (i j : ℕ) (x : DayRange × V) (v : V) → j + 1 ≡ i → j < length xs → x ≡ slice_index_or xs j x → has_later alike xs i x.1 ≡ true → has_later alike xs i v ≡ has_later alike xs j v
later-done {V} alike exact xs i j x v up lt is some = by (alike v x.1) refl ∙ sym (later-next alike xs i j x v up lt is)
  where
    by : (b : Bool) → alike v x.1 ≡ b → has_later alike xs i v ≡ (b || has_later alike xs i v)
    by true e = ap (has_later alike xs i) ((exact v x.1).0 e) ∙ some
    by false e = refl

-- the next entry is not done: those with its value become done
pub later-marked : {V : Type 0} (alike : V → V → Bool) → ((x y : V) → IsTrue (alike x y) ↔ (x ≡ y)) → (xs : List (DayRange × V)) (i j : ℕ) (x : DayRange × V) (v : V) (old new : Bool) → j + 1 ≡ i → j < length xs → x ≡ slice_index_or xs j x → old ≡ has_later alike xs i v → new ≡ (old || alike x.1 v) → new ≡ has_later alike xs j v
later-marked alike exact xs i j x v old new up lt is was so =
    so ∙ ap (λ b. b || alike x.1 v) was ∙ ap (λ b. has_later alike xs i v || b) (alike-turned alike exact x.1 v) ∙ turned (has_later alike xs i v) (alike v x.1) ∙ sym (later-next alike xs i j x v up lt is)
  where
    turned : (a b : Bool) → (a || b) ≡ (b || a)
    turned true true = refl
    turned true false = refl
    turned false true = refl
    turned false false = refl

-- before the place, the entries whose values come later too are done
pub record AreDone {V : Type 0} (alike : V → V → Bool) (xs : List (DayRange × V)) (done : List Bool) (place : ℕ) : Type 0 where
  pub each : (i : ℕ) (x : DayRange × V) → i < place → slice_get xs i ≡ Some x → slice_index_or done i false ≡ has_later alike xs place x.1

-- the next entry is done
pub done-kept : {V : Type 0} (alike : V → V → Bool) → ((x y : V) → IsTrue (alike x y) ↔ (x ≡ y)) → (xs : List (DayRange × V)) (done : List Bool) (i j : ℕ) (x : DayRange × V) → j + 1 ≡ i → j < length xs → x ≡ slice_index_or xs j x → AreDone alike xs done i → has_later alike xs i x.1 ≡ true → AreDone alike xs done j
done-kept alike exact xs done i j x up lt is d some = record { each = λ k y before at. d.each k y (omega arith) at ∙ later-done alike exact xs i j x y.1 up lt is some }

-- the next entry is not done
pub done-marked : {V : Type 0} (alike : V → V → Bool) → ((x y : V) → IsTrue (alike x y) ↔ (x ≡ y)) → (xs : List (DayRange × V)) (old new : List Bool) (i j : ℕ) (x : DayRange × V) → j + 1 ≡ i → j < length xs → x ≡ slice_index_or xs j x → AreDone alike xs old i → ((k : ℕ) (y : DayRange × V) → slice_get (take j xs) k ≡ Some y → slice_index_or new k false ≡ (slice_index_or old k false || alike x.1 y.1)) → AreDone alike xs new j
done-marked alike exact xs old new i j x up lt is d marked =
    record { each = λ k y before at. later-marked alike exact xs i j x y.1 (slice_index_or old k false) (slice_index_or new k false) up lt is (d.each k y (omega arith) at) (marked k y (take-get xs j k y before at)) }

pub done-others : {V : Type 0} (alike : V → V → Bool) → ((x y : V) → IsTrue (alike x y) ↔ (x ≡ y)) → (xs : List (DayRange × V)) (done : List Bool) (i j k : ℕ) (x y : DayRange × V) → j + 1 ≡ i → AreDone alike xs done i → has_later alike xs i x.1 ≡ false → slice_get (take j xs) k ≡ Some y → slice_index_or done k false ≡ true → alike x.1 y.1 ≡ false
done-others alike exact xs done i j k x y up d none at on =
    let got = get-take xs j k y at in let before = got.0 in
    other-value alike exact xs i x.1 y.1 none (sym (d.each k y (omega arith) got.1) ∙ on)

-- whether the next entry is done, as code reads it
pub done-at : {V : Type 0} (alike : V → V → Bool) (xs : List (DayRange × V)) (done : List Bool) (i j : ℕ) (x : DayRange × V) (read b : Bool) → j + 1 ≡ i → j < length xs → x ≡ slice_index_or xs j x → AreDone alike xs done i → j < length done → read ≡ slice_index_or done j read → read ≡ b → has_later alike xs i x.1 ≡ b
done-at alike xs done i j x read b up lt is d room at told =
    sym (d.each j x (omega arith) (get-index xs j x lt ∙ ap Some (sym is))) ∙ index-default done j false read room ∙ sym at ∙ told
