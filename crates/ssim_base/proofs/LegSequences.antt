-- The leg sequences of a flight: a look-up after an entry was changed in its place or pushed.
use Rattle.std.proofs.Common.{◌≡◌, ◌≢◌, ℕ, zero, suc, ◌-◌, ◌<◌, Bool, true, false, ◌&&◌, ◌||◌, nat_eq, if◌then◌else◌, cond, List, [], ◌∷◌, ◌++◌, Option, Some, None, Result, Ok, Err, OnOk, length, set, slice_get, refl, sym, ap, ◌∙◌, arith}
use Rattle.std.proofs.lemmas.Bool.Decides.{nat_tests}
use Rattle.std.proofs.lemmas.List.Folds.{find-append, find_at, position_or_len-set}
use Rattle.std.proofs.lemmas.Option.{get_or_from_slice_get, slice_get_within}
use Rattle.std.specs.List.{find, position_or_len}
use Rattle.std.specs.Option.{option_or}
use Rattle.ssim_values.specs.Period.{DayRange}
use Rattle.ssim_periods.specs.Calendar.{holds}
use Rattle.ssim_base.specs.internal.LegTable.{AddsLeg, entry_of, has_legs, has_variation, index_of, is_numbered, is_of, is_used, names_leg, used_of, uses_date, variation_of}
use Rattle.ssim_base.specs.declared.leg_table.leg_sequence.LegSequence.{LegSequence}

-- ---- the entry that a look-up finds

-- an entry of a leg sequence has its number
of-number : (s : ℕ) (x : LegSequence) → is_numbered s x ≡ true → x.number ≡ s
of-number s x h = grind (arith, nat_tests)

found : (p : LegSequence → Bool) (xs : List LegSequence) (x : LegSequence) → find p xs ≡ Some x → p x ≡ true
found p [] x h = absurd cc
found p (y ∷ xs) x h = by (p y) refl (found p xs x)
  where
    by : (b : Bool) → p y ≡ b → (find p xs ≡ Some x → p x ≡ true) → p x ≡ true
    by true e later =
        let here : Some y ≡ Some x = sym (ap (λ b. cond b (Some y) (find p xs)) e) ∙ h in
        let same : y ≡ x = cc in
        ap p (sym same) ∙ e
    by false e later = later (sym (ap (λ b. cond b (Some y) (find p xs)) e) ∙ h)

-- the entry of a leg sequence by the first look, or by the search
entry-by : (xs : List LegSequence) (s : ℕ) (b : Bool) → is_of s (slice_get xs (s - 1)) ≡ b → entry_of xs s ≡ (if b then slice_get xs (s - 1) else find (is_numbered s) xs)
entry-by xs s true e = ap (λ b. slice_get xs (if b then s - 1 else position_or_len (is_numbered s) xs)) e
entry-by xs s false e = ap (λ b. slice_get xs (if b then s - 1 else position_or_len (is_numbered s) xs)) e ∙ sym (find_at (is_numbered s) xs)

-- the entry of a leg sequence has its number
entry-number : (xs : List LegSequence) (s : ℕ) (x : LegSequence) → entry_of xs s ≡ Some x → x.number ≡ s
entry-number xs s x h = by (is_of s (slice_get xs (s - 1))) refl
  where
    by : (b : Bool) → is_of s (slice_get xs (s - 1)) ≡ b → x.number ≡ s
    by true e =
        let here : slice_get xs (s - 1) ≡ Some x = sym (entry-by xs s true e) ∙ h in
        of-number s x (sym (ap (is_of s) here) ∙ e)
    by false e = of-number s x (found (is_numbered s) xs x (sym (entry-by xs s false e) ∙ h))

-- ---- an entry is changed in its place

of-set : (xs : List LegSequence) (i : ℕ) (x y : LegSequence) (s k : ℕ) → slice_get xs i ≡ Some x → y.number ≡ x.number → is_of s (slice_get (set xs i y) k) ≡ is_of s (slice_get xs k)
of-set [] i x y s k at same = refl
of-set (z ∷ xs) zero x y s zero at same =
    let here : z ≡ x = cc in
    ap (λ n. nat_eq n s) (same ∙ ap (λ (w : LegSequence). w.number) (sym here))
of-set (z ∷ xs) zero x y s (suc k) at same = refl
of-set (z ∷ xs) (suc i) x y s zero at same = refl
of-set (z ∷ xs) (suc i) x y s (suc k) at same = of-set xs i x y s k at same

pub get-set : {A : Type 0} (xs : List A) (i : ℕ) (y : A) → i < length xs → slice_get (set xs i y) i ≡ Some y
get-set [] i y l = absurd (omega arith)
get-set (x ∷ xs) zero y l = refl
get-set (x ∷ xs) (suc i) y l = get-set xs i y (omega arith)

pub get-set_other : {A : Type 0} (xs : List A) (i k : ℕ) (y : A) → k ≢ i → slice_get (set xs i y) k ≡ slice_get xs k
get-set_other [] i k y other = refl
get-set_other (x ∷ xs) zero zero y other = absurd (other refl)
get-set_other (x ∷ xs) zero (suc k) y other = refl
get-set_other (x ∷ xs) (suc i) zero y other = refl
get-set_other (x ∷ xs) (suc i) (suc k) y other = get-set_other xs i k y (λ e. other (ap suc e))

same-index : (xs : List LegSequence) (i : ℕ) (x y : LegSequence) (s : ℕ) → slice_get xs i ≡ Some x → y.number ≡ x.number → index_of (set xs i y) s ≡ index_of xs s
same-index xs i x y s at same =
    ap (λ b. if b then s - 1 else position_or_len (is_numbered s) (set xs i y)) (of-set xs i x y s (s - 1) at same)
    ∙ ap (λ n. if is_of s (slice_get xs (s - 1)) then s - 1 else n)
    (position_or_len-set (is_numbered s) xs i y x (ap (λ n. nat_eq n s) (same ∙ ap (λ (w : LegSequence). w.number) (sym (get_or_from_slice_get xs i x x at)))))

-- the entries after the one of a leg sequence was changed
pub entry-set : (xs : List LegSequence) (s t : ℕ) (x y : LegSequence) → entry_of xs s ≡ Some x → y.number ≡ x.number → entry_of (set xs (index_of xs s) y) t ≡ (if nat_eq t s then Some y else entry_of xs t)
entry-set xs s t x y at same = ap (λ k. slice_get (set xs i y) k) (same-index xs i x y t at same) ∙ by (nat_eq t s) refl
  where
    i : ℕ
    i = index_of xs s

    apart : t ≢ s → index_of xs t ≢ i
    apart other e = other (sym (entry-number xs t x (ap (slice_get xs) e ∙ at)) ∙ entry-number xs s x at)

    by : (b : Bool) → nat_eq t s ≡ b → slice_get (set xs i y) (index_of xs t) ≡ (if b then Some y else entry_of xs t)
    by true e =
        let one : t ≡ s = grind (arith, nat_tests) in
        ap (λ u. slice_get (set xs i y) (index_of xs u)) one ∙ get-set xs i y (slice_get_within xs i x at)
    by false e =
        let other : t ≢ s = grind (arith, nat_tests) in
        get-set_other xs i (index_of xs t) y (apart other)

-- ---- an entry is pushed

or-none : (b : Bool) → (b || false) ≡ b
or-none true = refl
or-none false = refl

of-push : (xs : List LegSequence) (y : LegSequence) (s k : ℕ) → is_of s (slice_get (xs ++ y ∷ []) k) ≡ (is_of s (slice_get xs k) || (nat_eq k (length xs) && is_numbered s y))
of-push [] y s zero = refl
of-push [] y s (suc k) =
    let other : nat_eq (suc k) 0 ≡ false = grind (arith, nat_tests) in
    ap (λ b. b && is_numbered s y) (sym other)
of-push (x ∷ xs) y s zero =
    let other : nat_eq 0 (suc (length xs)) ≡ false = grind (arith, nat_tests) in
    sym (or-none (is_numbered s x)) ∙ ap (λ b. is_numbered s x || (b && is_numbered s y)) (sym other)
of-push (x ∷ xs) y s (suc k) =
    let same : nat_eq k (length xs) ≡ nat_eq (suc k) (suc (length xs)) = grind (arith, nat_tests) in
    of-push xs y s k ∙ ap (λ b. is_of s (slice_get xs k) || (b && is_numbered s y)) same

get-last : (xs : List LegSequence) (y : LegSequence) → slice_get (xs ++ y ∷ []) (length xs) ≡ Some y
get-last [] y = refl
get-last (x ∷ xs) y = get-last xs y

get-push : (xs : List LegSequence) (y : LegSequence) (s k : ℕ) → is_of s (slice_get xs k) ≡ true → slice_get (xs ++ y ∷ []) k ≡ slice_get xs k
get-push [] y s k h = absurd cc
get-push (x ∷ xs) y s zero h = refl
get-push (x ∷ xs) y s (suc k) h = get-push xs y s k h

or-empty : (o : Option LegSequence) → option_or o None ≡ o
or-empty (Some x) = refl
or-empty None = refl

never : {A : Type 0} → true ≡ false → A
never e = absurd cc

-- the entries after one was pushed whose leg sequence had none
pub entry-push : (xs : List LegSequence) (s t : ℕ) (y : LegSequence) → entry_of xs s ≡ None → y.number ≡ s → entry_of (xs ++ y ∷ []) t ≡ (if nat_eq t s then Some y else entry_of xs t)
entry-push xs s t y none numbered = by (nat_eq t s) (is_of t (slice_get xs (t - 1))) (is_of t (slice_get (xs ++ y ∷ []) (t - 1))) refl refl refl
  where
    search : find (is_numbered t) (xs ++ y ∷ []) ≡ option_or (find (is_numbered t) xs) (cond (is_numbered t y) (Some y) None)
    search = find-append (is_numbered t) xs (y ∷ [])

    by : (b c d : Bool) → nat_eq t s ≡ b → is_of t (slice_get xs (t - 1)) ≡ c → is_of t (slice_get (xs ++ y ∷ []) (t - 1)) ≡ d
        → entry_of (xs ++ y ∷ []) t ≡ (if b then Some y else entry_of xs t)
    by true true d e f g =
        let one : t ≡ s = grind (arith, nat_tests) in
        let gone : slice_get xs (t - 1) ≡ None = sym (entry-by xs t true f) ∙ ap (entry_of xs) one ∙ none in
        never (sym f ∙ ap (is_of t) gone)
    by true false true e f g =
        let last : (nat_eq (t - 1) (length xs) && is_numbered t y) ≡ true = sym (ap (λ b. b || (nat_eq (t - 1) (length xs) && is_numbered t y)) f) ∙ sym (of-push xs y t (t - 1)) ∙ g in
        let end : t - 1 ≡ length xs = grind (arith, nat_tests) in
        entry-by (xs ++ y ∷ []) t true g ∙ ap (slice_get (xs ++ y ∷ [])) end ∙ get-last xs y
    by true false false e f g =
        let one : t ≡ s = grind (arith, nat_tests) in
        let its : is_numbered t y ≡ true = grind (arith, nat_tests) in
        let gone : find (is_numbered t) xs ≡ None = sym (entry-by xs t false f) ∙ ap (entry_of xs) one ∙ none in
        entry-by (xs ++ y ∷ []) t false g ∙ search
        ∙ ap (λ b. option_or (find (is_numbered t) xs) (cond b (Some y) None)) its ∙ ap (λ o. option_or o (Some y)) gone
    by false true true e f g = entry-by (xs ++ y ∷ []) t true g ∙ get-push xs y t (t - 1) f ∙ sym (entry-by xs t true f)
    by false true false e f g = never (sym f ∙ sym (ap (is_of t) (get-push xs y t (t - 1) f)) ∙ g)
    by false false true e f g =
        let other : is_numbered t y ≡ false = grind (arith, nat_tests) in
        let last : (nat_eq (t - 1) (length xs) && is_numbered t y) ≡ true = sym (ap (λ b. b || (nat_eq (t - 1) (length xs) && is_numbered t y)) f) ∙ sym (of-push xs y t (t - 1)) ∙ g in
        absurd (grind (arith, nat_tests))
    by false false false e f g =
        let other : is_numbered t y ≡ false = grind (arith, nat_tests) in
        entry-by (xs ++ y ∷ []) t false g ∙ search
        ∙ ap (λ b. option_or (find (is_numbered t) xs) (cond b (Some y) None)) other ∙ or-empty (find (is_numbered t) xs) ∙ sym (entry-by xs t false f)

-- ---- one more leg record

pub has-set : (xs : List LegSequence) (i : ℕ) (y : LegSequence) → i < length xs → has_legs (set xs i y) ≡ true
has-set [] i y l = absurd (omega arith)
has-set (x ∷ xs) zero y l = refl
has-set (x ∷ xs) (suc i) y l = refl

pub has-push : (xs : List LegSequence) (y : LegSequence) → has_legs (xs ++ y ∷ []) ≡ true
has-push [] y = refl
has-push (x ∷ xs) y = refl

-- the entry of the leg sequence has one more variation and the dates of one more period
pub adds : (old new : List LegSequence) (s v : ℕ) (p : DayRange) (y : LegSequence) → ((t : ℕ) → entry_of new t ≡ (if nat_eq t s then Some y else entry_of old t))
    → ((w : ℕ) → has_variation y w ≡ (nat_eq w v || variation_of (entry_of old s) w)) → ((n : ℕ) → is_used y.dates n ≡ (holds p n || used_of (entry_of old s) n))
    → has_legs new ≡ true → AddsLeg old new s v p
adds old new s v p y entries variations dates there = record {
  named = λ t w. ap (λ o. variation_of o w) (entries t) ∙ by_name t w (nat_eq t s) refl;
  used = λ t n. ap (λ o. used_of o n) (entries t) ∙ by_date t n (nat_eq t s) refl;
  there = there;
}
  where
    by_name : (t w : ℕ) (b : Bool) → nat_eq t s ≡ b → variation_of (if b then Some y else entry_of old t) w ≡ ((b && nat_eq w v) || names_leg old t w)
    by_name t w true e =
        let one : s ≡ t = grind (arith, nat_tests) in
        variations w ∙ ap (λ u. nat_eq w v || variation_of (entry_of old u) w) one
    by_name t w false e = refl

    by_date : (t n : ℕ) (b : Bool) → nat_eq t s ≡ b → used_of (if b then Some y else entry_of old t) n ≡ ((b && holds p n) || uses_date old t n)
    by_date t n true e =
        let one : s ≡ t = grind (arith, nat_tests) in
        dates n ∙ ap (λ u. holds p n || used_of (entry_of old u) n) one
    by_date t n false e = refl

-- what two facts of a success give
pub on-both : {A E : Type 0} (r : Result A E) {P Q R : Type 0} → (P → Q → R) → OnOk r P → OnOk r Q → OnOk r R
on-both (Ok x) f p q = f p q
on-both (Err e) f p q = tt
