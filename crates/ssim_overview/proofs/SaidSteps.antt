-- One element more: what loops over lists have after it.
use Rattle.std.proofs.Common.{◌≡◌, ◌∙◌, ℕ, ◌+◌, ◌-◌, ◌++◌, ◌≤◌, ◌<◌, Bool, true, false, if◌then◌else◌, List, [], ◌∷◌, map}
use Rattle.std.proofs.Common.{filter, length, get_or, take, Option, sym, ap, refl, arith, append-nil}
use Rattle.std.proofs.Common.{◌==◌, suc, Result, Ok, Err, IsErr, OnOk}
use Rattle.std.proofs.lemmas.Bool.Decides.{nat_tests}
use Rattle.std.specs.List.{range_with_len}
use Rattle.std.specs.Option.{option_to_list}
use Rattle.std.proofs.lemmas.List.{map-append, take_more}
use Rattle.std.proofs.lemmas.List.Concat.{flat_map-append}
use Rattle.std.proofs.lemmas.List.Elements.{filter-append}
use Rattle.ssim_values.specs.Variation.{Offset}
use Rattle.ssim_base.specs.Stations.{Row}
use Rattle.ssim_periods.specs.Calendar.{holds}
use Rattle.ssim_periods.specs.Pieces.{held_on}
use Rattle.ssim_overview.specs.SaidRows.{with_variation}
use Rattle.ssim_overview.specs.internal.SaidRows.{Dated, grown}
use Rattle.ssim_overview.specs.declared.sayings.Saying.{Saying}
use Rattle.ssim_overview.proofs.SaidDays.{grown_on, range_split}

-- an element after those before it
pub taken : {A : Type 0} (xs : List A) (i : ℕ) (x : A) → i < length xs → x ≡ get_or xs i x
    → take (i + 1) xs ≡ take i xs ++ x ∷ []
taken xs i x lt is = take_more xs i x lt ∙ ap (λ y. take i xs ++ y ∷ []) (sym is)

pub held_append : (xs ys : List Dated) (n : ℕ) → held_on (xs ++ ys) n ≡ held_on xs n ++ held_on ys n
held_append [] ys n = refl
held_append (x ∷ xs) ys n = by (held_append xs ys n) (holds x.0 n)
  where
    by : held_on (xs ++ ys) n ≡ held_on xs n ++ held_on ys n → (b : Bool)
        → (if b then x.1 ∷ held_on (xs ++ ys) n else held_on (xs ++ ys) n)
        ≡ (if b then x.1 ∷ held_on xs n else held_on xs n) ++ held_on ys n
    by rest true = ap (λ (s : List Saying). x.1 ∷ s) rest
    by rest false = rest

-- one saying more on a day
pub held_more : (xs : List Dated) (i : ℕ) (x : Dated) (n : ℕ) → i < length xs → x ≡ get_or xs i x
    → held_on (take (i + 1) xs) n
    ≡ held_on (take i xs) n ++ (if holds x.0 n then x.1 ∷ [] else [])
held_more xs i x n lt is =
    ap (λ (ys : List Dated). held_on ys n) (taken xs i x lt is) ∙ held_append (take i xs) (x ∷ []) n

-- a range with one number more
pub range_more : (from n : ℕ) → from ≤ n
    → range_with_len from (n + 1 - from) ≡ range_with_len from (n - from) ++ n ∷ []
range_more from n le =
    let one : n + 1 - from ≡ (n - from) + 1 = omega arith in
    let last : from + (n - from) ≡ n = omega arith in
    ap (range_with_len from) one ∙ range_split from (n - from) 1
    ∙ ap (λ (k : ℕ). range_with_len from (n - from) ++ k ∷ []) last

-- a date with a variation, if there is one
pub dates_more : (f : ℕ → Option Offset) (from n : ℕ) → from ≤ n
    → with_variation f (range_with_len from (n + 1 - from))
    ≡ with_variation f (range_with_len from (n - from)) ++ map (λ v. (n, v)) (option_to_list (f n))
dates_more f from n le =
    ap (with_variation f) (range_more from n le)
    ∙ flat_map-append (λ (k : ℕ). map (λ v. (k, v)) (option_to_list (f k))) (range_with_len from (n - from)) (n ∷ [])
    ∙ ap (λ (d : List (ℕ × Offset)). with_variation f (range_with_len from (n - from)) ++ d)
    (append-nil (map (λ v. (n, v)) (option_to_list (f n))))

-- rows with the date of one day more
pub rows_more : (station : List ℕ) (f : ℕ → Option Offset) (from n : ℕ) (old rows new : List Row) → from ≤ n
    → rows ≡ grown station old (with_variation f (range_with_len from (n - from)))
    → new ≡ grown station rows (map (λ v. (n, v)) (option_to_list (f n)))
    → new ≡ grown station old (with_variation f (range_with_len from (n + 1 - from)))
rows_more station f from n old rows new le before added =
    added
    ∙ ap (λ (r : List Row). grown station r (map (λ v. (n, v)) (option_to_list (f n)))) before
    ∙ grown_on station old (with_variation f (range_with_len from (n - from)))
    (map (λ v. (n, v)) (option_to_list (f n)))
    ∙ ap (grown station old) (sym (dates_more f from n le))

-- one saying more on a day, if its period holds it
pub held_step : (xs : List Dated) (i : ℕ) (x : Dated) (n : ℕ) (old new : List Saying) → i < length xs
    → x ≡ get_or xs i x → old ≡ held_on (take i xs) n → (b : Bool) → b ≡ holds x.0 n
    → new ≡ (if b then old ++ x.1 ∷ [] else old) → new ≡ held_on (take (i + 1) xs) n
held_step xs i x n old new lt is before b e added =
    added ∙ by b ∙ ap (λ (h : List Saying). h ++ (if b then x.1 ∷ [] else [])) before
    ∙ ap (λ (t : Bool). held_on (take i xs) n ++ (if t then x.1 ∷ [] else [])) e
    ∙ sym (held_more xs i x n lt is)
  where
    by : (t : Bool) → (if t then old ++ x.1 ∷ [] else old) ≡ old ++ (if t then x.1 ∷ [] else [])
    by true = refl
    by false = sym (append-nil old)

-- the value of one day more
pub week_more : {A : Type 0} (f : ℕ → A) (from n : ℕ) (old new : List A) (v : A) → from ≤ n
    → old ≡ map f (range_with_len from (n - from)) → new ≡ old ++ v ∷ [] → v ≡ f n
    → new ≡ map f (range_with_len from (n + 1 - from))
week_more {A} f from n old new v le before added is =
    added ∙ ap (λ (o : List A). o ++ v ∷ []) before
    ∙ ap (λ (u : A). map f (range_with_len from (n - from)) ++ u ∷ []) is
    ∙ sym (map-append f (range_with_len from (n - from)) (n ∷ [])) ∙ ap (map f) (sym (range_more from n le))

-- one element more, if it passes
pub filter_step : {A : Type 0} (p : A → Bool) (xs : List A) (i : ℕ) (x : A) (old new : List A) → i < length xs
    → x ≡ get_or xs i x → old ≡ filter p (take i xs) → (b : Bool) → b ≡ p x
    → new ≡ (if b then old ++ x ∷ [] else old) → new ≡ filter p (take (i + 1) xs)
filter_step {A} p xs i x old new lt is before b e added =
    added ∙ by b ∙ ap (λ (h : List A). h ++ (if b then x ∷ [] else [])) before
    ∙ ap (λ (t : Bool). filter p (take i xs) ++ (if t then x ∷ [] else [])) e
    ∙ sym (ap (filter p) (taken xs i x lt is) ∙ filter-append p (take i xs) (x ∷ []))
  where
    by : (t : Bool) → (if t then old ++ x ∷ [] else old) ≡ old ++ (if t then x ∷ [] else [])
    by true = refl
    by false = sym (append-nil old)

-- nothing is owed of an error
pub not_ok : {T E : Type 0} (P : Type 0) (r : Result T E) → IsErr r → OnOk r P
not_ok P (Ok x) h = absurd cc
not_ok P (Err e) h = tt

pub no_items : (xs ys : List Dated) → ys ≡ xs → (length ys == 0) ≡ true → xs ≡ []
no_items xs [] is h = sym is
no_items xs (y ∷ ys) is h = absurd (more (length ys) h)
  where
    more : (n : ℕ) → (suc n == 0) ≡ true → ⊥
    more n t = let bad : suc n ≡ 0 = grind (arith, nat_tests) in omega arith
