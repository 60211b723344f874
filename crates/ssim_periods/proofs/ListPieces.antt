-- The pieces of periods without a common day: the days of each value are the days of its periods,
-- and each value comes last once.
use Rattle.std.proofs.Common.{◌≡◌, ◌≢◌, ℕ, zero, suc, ◌+◌, ◌-◌, ◌<◌, ◌≤◌, ◌||◌, Bool, true, false, if◌then◌else◌, nat_eq, List, [], ◌∷◌, ◌++◌, length, filter, map, take, drop, slice_index_or, refl, ap, subst, sym, ◌∙◌, arith, ◌⊎◌, inl, inr, IsTrue, ◌↔◌, append-nil, length-drop}
use Rattle.std.proofs.Math.Bool.{or-false, or-true}
use Rattle.std.specs.List.{All, Contains, flat_map, list_any}
use Rattle.std.specs.List.Sorted.{IsPermutation, IsNonDecreasingBy}
use Rattle.std.proofs.Math.Path.{fun_ext}
use Rattle.std.proofs.lemmas.List.{drop_more, take_more, take-append-drop}
use Rattle.std.proofs.lemmas.Grind.{flat_map-append}
use Rattle.std.proofs.lemmas.List.Elements.{filter-append}
use Rattle.std.proofs.lemmas.List.Sorted.{All-permutation}
use Rattle.std.proofs.lemmas.List.Folds.{list_any-append}
use Rattle.ssim_values.specs.Period.{DayRange}
use Rattle.ssim_periods.specs.internal.Apart.{value_in, given_on, given_cover, held_cover, is_held, mark_on, last_values, list_seen, AreApart}
use Rattle.ssim_periods.specs.Calendar.{day_count, holds}
use Rattle.ssim_periods.specs.Cover.{cover}
use Rattle.ssim_periods.specs.Days.{each_day}
use Rattle.ssim_periods.specs.Pieces.{has_value, pieces_with, pieces_of, held_on, alone}
use Rattle.ssim_periods.proofs.ApartLemmas.{value_in-none}
use Rattle.ssim_periods.proofs.CoverLemmas.{le_or_lt}
use Rattle.ssim_periods.proofs.DayLemmas.{day_count-is, length-each_day, index-each_day, holds-Holds}
use Rattle.ssim_periods.proofs.PieceLaw.{alike-self, alike-turned, has_value-at, has_value-past, held_on-append}
use Rattle.ssim_periods.proofs.PieceOrder.{In, held-moved, in-moved}
use Rattle.ssim_periods.proofs.PiecesFound.{in-append, pieces-once}

known : (b : Bool) → (b ≡ true) ⊎ (b ≡ false)
known true = inl refl
known false = inr refl

pub not-alike : {V : Type 0} (alike : V → V → Bool) → ((x y : V) → IsTrue (alike x y) ↔ (x ≡ y)) → (v w : V) → v ≢ w → alike v w ≡ false
not-alike alike exact v w h = elim (known (alike v w)) [ inl on ↦ absurd (h ((exact v w).0 on)) | inr off ↦ off ]

-- ---- the period that holds a day

found : {V : Type 0} (xs : List (DayRange × V)) (n : ℕ) → (held_on xs n ≡ []) ⊎ ((x : DayRange × V) × In x xs × (holds x.0 n ≡ true))
found [] n = inl refl
found {V} (y ∷ xs) n = by (found xs n) (holds y.0 n) refl
  where
    by : (held_on xs n ≡ []) ⊎ ((x : DayRange × V) × In x xs × (holds x.0 n ≡ true)) → (b : Bool) → holds y.0 n ≡ b → ((if b then y.1 ∷ held_on xs n else held_on xs n) ≡ []) ⊎ ((x : DayRange × V) × In x (y ∷ xs) × (holds x.0 n ≡ true))
    by later true e = inr (y, inl refl, e)
    by (inl none) false e = inl none
    by (inr some) false e = inr (some.0, inr some.1, some.2)

none-left : {V : Type 0} (vs : List V) (v : V) → length (v ∷ vs) ≤ 1 → vs ≡ []
none-left [] v h = refl
none-left (w ∷ vs) v h = absurd (omega arith)

less : {V : Type 0} (b : Bool) (v : V) (vs : List V) → length (if b then v ∷ vs else vs) ≤ 1 → length vs ≤ 1
less true v vs l = omega arith
less false v vs l = l

held-value : {V : Type 0} (d : V) (xs : List (DayRange × V)) (x : DayRange × V) (n : ℕ) → length (held_on xs n) ≤ 1 → In x xs → holds x.0 n ≡ true → value_in d xs n ≡ x.1
held-value d [] x n once i h = absurd i
held-value {V} d (y ∷ xs) x n once (inl e) h =
    let own : holds y.0 n ≡ true = ap (λ z. holds z.0 n) (sym e) ∙ h in
    let few : length (y.1 ∷ held_on xs n) ≤ 1 = subst (λ b. length (if b then y.1 ∷ held_on xs n else held_on xs n) ≤ 1) own once in
    ap (λ b. value_in (if b then y.1 else d) xs n) own ∙ value_in-none y.1 xs n (none-left (held_on xs n) y.1 few) ∙ ap (λ z. z.1) (sym e)
held-value {V} d (y ∷ xs) x n once (inr i) h =
    held-value (if holds y.0 n then y.1 else d) xs x n (less (holds y.0 n) y.1 (held_on xs n) once) i h

-- the period that holds the day is the only one
held-one : {V : Type 0} (xs : List (DayRange × V)) (x : DayRange × V) (n : ℕ) → length (held_on xs n) ≤ 1 → In x xs → holds x.0 n ≡ true → held_on xs n ≡ x.1 ∷ []
held-one [] x n once i h = absurd i
held-one (y ∷ xs) x n once (inl e) h =
    let own : holds y.0 n ≡ true = ap (λ z. holds z.0 n) (sym e) ∙ h in
    let few : length (y.1 ∷ held_on xs n) ≤ 1 = subst (λ b. length (if b then y.1 ∷ held_on xs n else held_on xs n) ≤ 1) own once in
    ap (λ b. if b then y.1 ∷ held_on xs n else held_on xs n) own ∙ ap (λ vs. y.1 ∷ vs) (none-left (held_on xs n) y.1 few) ∙ ap (λ z. z.1 ∷ []) (sym e)
held-one {V} (y ∷ xs) x n once (inr i) h = by (holds y.0 n) once (held-one xs x n (less (holds y.0 n) y.1 (held_on xs n) once) i h)
  where
    by : (b : Bool) → length (if b then y.1 ∷ held_on xs n else held_on xs n) ≤ 1 → held_on xs n ≡ x.1 ∷ [] → (if b then y.1 ∷ held_on xs n else held_on xs n) ≡ x.1 ∷ []
    by true few one = let none = none-left (held_on xs n) y.1 few in cc
    by false few one = one

-- the value of a day does not depend on the order of the periods
value_in-moved : {V : Type 0} (d : V) (xs ys : List (DayRange × V)) (n : ℕ) → IsPermutation xs ys → length (held_on xs n) ≤ 1 → value_in d ys n ≡ value_in d xs n
value_in-moved {V} d xs ys n moved once = by (found ys n)
  where
    few : length (held_on ys n) ≤ 1
    few = let same = held-moved xs ys n moved in omega arith

    none : (values : List V) → length values ≡ 0 → values ≡ []
    none [] e = refl
    none (v ∷ values) e = absurd (omega arith)

    by : (held_on ys n ≡ []) ⊎ ((x : DayRange × V) × In x ys × (holds x.0 n ≡ true)) → value_in d ys n ≡ value_in d xs n
    by (inl e) = let same = held-moved xs ys n moved in let zero_long = ap length e in value_in-none d ys n e ∙ sym (value_in-none d xs n (none (held_on xs n) (omega arith)))
    by (inr some) = held-value d ys some.0 n few some.1 some.2 ∙ sym (held-value d xs some.0 n once (in-moved some.0 xs ys moved some.1) some.2)

pub seen-moved : {V : Type 0} (nothing : V) (xs ys : List (DayRange × V)) (cuts : List ℕ) → IsPermutation xs ys → AreApart nothing xs cuts → list_seen nothing ys cuts ≡ list_seen nothing xs cuts
seen-moved nothing xs ys cuts moved apart = ap (λ f. record { days = each_day f; cuts = cuts }) (fun_ext (λ n. value_in-moved nothing xs ys n moved (apart.once n)))

pub apart-moved : {V : Type 0} (nothing : V) (xs ys : List (DayRange × V)) (cuts : List ℕ) → IsPermutation xs ys → AreApart nothing xs cuts → AreApart nothing ys cuts
apart-moved nothing xs ys cuts moved apart = record {
  once = λ n. let same = held-moved xs ys n moved in let few = apart.once n in omega arith;
  given = All-permutation (λ given. given.1 ≢ nothing) xs ys moved apart.given;
  divided = All-permutation (λ given. Contains cuts given.0.first × Contains cuts (given.0.last + 1)) xs ys moved apart.divided;
  rising = apart.rising;
  in_calendar = apart.in_calendar;
}

-- no period holds a day after the calendar
pub held-past : {V : Type 0} (xs : List (DayRange × V)) (n : ℕ) → All (λ (given : DayRange × V). given.0.last < 36525) xs → 36525 ≤ n → held_on xs n ≡ []
held-past [] n all past = refl
held-past {V} (y ∷ xs) n all past =
    ap (λ b. if b then y.1 ∷ held_on xs n else held_on xs n) off ∙ held-past xs n (λ k d l. all (suc k) d (omega arith)) past
  where
    off : holds y.0 n ≡ false
    off = elim (known (holds y.0 n)) [ inl on ↦ let to = (holds-Holds y.0 n on).1 in let last = all 0 y (omega arith) in absurd (omega arith) | inr out ↦ out ]

-- ---- each value once

any-in : {V : Type 0} (alike : V → V → Bool) (v : V) (xs : List (DayRange × V)) (x : DayRange × V) → In x xs → alike v x.1 ≡ true → list_any (λ (y : DayRange × V). alike v y.1) xs ≡ true
any-in alike v [] x i h = absurd i
any-in alike v (y ∷ xs) x (inl e) h = ap (λ b. b || list_any (λ z. alike v z.1) xs) (ap (λ z. alike v z.1) (sym e) ∙ h)
any-in alike v (y ∷ xs) x (inr i) h = ap (λ b. alike v y.1 || b) (any-in alike v xs x i h) ∙ or-true (alike v y.1)

-- a value of the list passes the test of its own once
last-once : {V : Type 0} (alike : V → V → Bool) → ((x y : V) → IsTrue (alike x y) ↔ (x ≡ y)) → (w : V) (xs : List (DayRange × V)) → filter (λ v. alike v w) (last_values alike xs) ≡ (if list_any (λ (y : DayRange × V). alike w y.1) xs then w ∷ [] else [])
last-once alike exact w [] = refl
last-once {V} alike exact w (y ∷ xs) = by (list_any (λ (z : DayRange × V). alike y.1 z.1) xs) refl (known (alike w y.1)) (last-once alike exact w xs)
  where
    among : V → Bool
    among = λ v. list_any (λ (z : DayRange × V). alike v z.1) xs

    of : Bool → List V
    of = λ b. if b then w ∷ [] else []

    by : (b : Bool) → among y.1 ≡ b → (alike w y.1 ≡ true) ⊎ (alike w y.1 ≡ false) → filter (λ v. alike v w) (last_values alike xs) ≡ of (among w) → filter (λ v. alike v w) (if b then last_values alike xs else last_values alike xs ++ y.1 ∷ []) ≡ of (alike w y.1 || among w)
    by true e (inl on) so = so ∙ ap of (ap among ((exact w y.1).0 on) ∙ e) ∙ sym (ap (λ b. of (b || among w)) on)
    by true e (inr off) so = so ∙ sym (ap (λ b. of (b || among w)) off)
    by false e (inl on) so =
        let same : w ≡ y.1 = (exact w y.1).0 on in
        filter-append (λ v. alike v w) (last_values alike xs) (y.1 ∷ []) ∙ ap (λ l. l ++ filter (λ v. alike v w) (y.1 ∷ [])) (so ∙ ap of (ap among same ∙ e))
        ∙ ap (λ b. if b then y.1 ∷ [] else []) ((exact y.1 w).1 (sym same)) ∙ ap (λ v. v ∷ []) (sym same) ∙ sym (ap (λ b. of (b || among w)) on)
    by false e (inr off) so =
        filter-append (λ v. alike v w) (last_values alike xs) (y.1 ∷ []) ∙ ap (λ b. filter (λ v. alike v w) (last_values alike xs) ++ (if b then y.1 ∷ [] else [])) (alike-turned alike exact y.1 w ∙ off)
        ∙ append-nil (filter (λ v. alike v w) (last_values alike xs)) ∙ so ∙ sym (ap (λ b. of (b || among w)) off)

-- the empty value is not among the last values
none-empty : {V : Type 0} (alike : V → V → Bool) (nothing : V) → ((x y : V) → IsTrue (alike x y) ↔ (x ≡ y)) → (xs : List (DayRange × V)) → All (λ (given : DayRange × V). given.1 ≢ nothing) xs → list_any (λ (y : DayRange × V). alike nothing y.1) xs ≡ false
none-empty alike nothing exact [] all = refl
none-empty alike nothing exact (y ∷ xs) all =
    ap (λ b. b || list_any (λ z. alike nothing z.1) xs) (not-alike alike exact nothing y.1 (λ e. all 0 y (omega arith) (sym e)))
    ∙ none-empty alike nothing exact xs (λ k d l. all (suc k) d (omega arith))

given-in : {V : Type 0} (nothing : V) (xs : List (DayRange × V)) (x : DayRange × V) → All (λ (given : DayRange × V). given.1 ≢ nothing) xs → In x xs → x.1 ≢ nothing
given-in nothing [] x all i = absurd i
given-in nothing (y ∷ xs) x all (inl e) = subst (λ z. z.1 ≢ nothing) (sym e) (all 0 y (omega arith))
given-in nothing (y ∷ xs) x all (inr i) = given-in nothing xs x (λ k d l. all (suc k) d (omega arith)) i

last-given : {V : Type 0} (alike : V → V → Bool) (nothing : V) (xs : List (DayRange × V)) (v : V) → All (λ (given : DayRange × V). given.1 ≢ nothing) xs → In v (last_values alike xs) → v ≢ nothing
last-given alike nothing [] v all i = absurd i
last-given {V} alike nothing (y ∷ xs) v all i = by (list_any (λ (z : DayRange × V). alike y.1 z.1) xs) (last-given alike nothing xs v (λ k d l. all (suc k) d (omega arith))) i
  where
    by : (b : Bool) → (In v (last_values alike xs) → v ≢ nothing) → In v (if b then last_values alike xs else last_values alike xs ++ y.1 ∷ []) → v ≢ nothing
    by true so j = so j
    by false so j = elim (in-append v (last_values alike xs) (y.1 ∷ []) j) [ inl earlier ↦ so earlier | inr own ↦ elim own [ inl e ↦ subst (λ w. w ≢ nothing) (sym e) (all 0 y (omega arith)) | inr none ↦ absurd none ] ]

-- each day has its value once
once-each : {V : Type 0} (alike : V → V → Bool) (nothing : V) → ((x y : V) → IsTrue (alike x y) ↔ (x ≡ y)) → (xs : List (DayRange × V)) (cuts : List ℕ) (n : ℕ) → AreApart nothing xs cuts → filter (λ v. alike v (value_in nothing xs n)) (last_values alike xs) ≡ alone alike nothing (value_in nothing xs n)
once-each {V} alike nothing exact xs cuts n a =
    let among = λ (v : V). list_any (λ (y : DayRange × V). alike v y.1) xs in
    last-once alike exact (value_in nothing xs n) xs ∙ elim (found xs n) [
      | inl none ↦
          let value = value_in-none nothing xs n none in
          ap (λ x. if among x then x ∷ [] else []) value ∙ ap (λ b. if b then nothing ∷ [] else []) (none-empty alike nothing exact xs a.given)
          ∙ sym (ap (λ x. alone alike nothing x) value ∙ ap (λ b. if b then [] else nothing ∷ []) (alike-self alike exact nothing))
      | inr some ↦
          let x = some.0 in let value = held-value nothing xs x n (a.once n) some.1 some.2 in
          ap (λ y. if among y then y ∷ [] else []) value ∙ ap (λ b. if b then x.1 ∷ [] else []) (any-in alike x.1 xs x some.1 (alike-self alike exact x.1))
          ∙ sym (ap (λ y. alone alike nothing y) value ∙ ap (λ b. if b then [] else x.1 ∷ []) (not-alike alike exact x.1 nothing (given-in nothing xs x a.given some.1)))
    ]

-- ---- the days of a value

-- periods end in the calendar
pub all-end : {V : Type 0} (nothing : V) (xs : List (DayRange × V)) (cuts : List ℕ) → AreApart nothing xs cuts → All (λ (given : DayRange × V). given.0.last < 36525) xs
all-end nothing xs cuts a k d l =
    let c = (a.divided k d l).1 in let x = slice_index_or xs k d in
    let le : x.0.last + 1 ≤ 36525 = subst (λ m. m ≤ 36525) c.2 (a.in_calendar c.0 (x.0.last + 1) c.1) in
    omega arith

days-of : {V : Type 0} (alike : V → V → Bool) (nothing : V) → ((x y : V) → IsTrue (alike x y) ↔ (x ≡ y)) → (xs : List (DayRange × V)) (cuts : List ℕ) (days : List V) (v : V) (n : ℕ) → AreApart nothing xs cuts → each_day (value_in nothing xs) ≡ days → v ≢ nothing → given_on alike xs v n ≡ has_value alike days v n
days-of {V} alike nothing exact xs cuts days v n a view given =
    let size : length days ≡ 36525 = sym (ap length view) ∙ length-each_day (value_in nothing xs) in
    elim (le_or_lt (length days) n) [
      | inl past ↦ ap (list_any (alike v)) (held-past xs n (all-end nothing xs cuts a) (omega arith)) ∙ sym (has_value-past alike days v n past)
      | inr within ↦
          let day : slice_index_or days n nothing ≡ value_in nothing xs n = ap (λ ds. slice_index_or ds n nothing) (sym view) ∙ index-each_day (value_in nothing xs) n nothing (omega arith) in
          let has : has_value alike days v n ≡ alike v (value_in nothing xs n) = has_value-at alike nothing days v n within ∙ ap (alike v) day in
          elim (found xs n) [
            | inl none ↦ ap (list_any (alike v)) none ∙ sym (has ∙ ap (alike v) (value_in-none nothing xs n none) ∙ not-alike alike exact v nothing given)
            | inr some ↦
                let x = some.0 in
                ap (list_any (alike v)) (held-one xs x n (a.once n) some.1 some.2) ∙ or-false (alike v x.1)
                ∙ sym (has ∙ ap (alike v) (held-value nothing xs x n (a.once n) some.1 some.2))
          ]
    ]

-- periods that come later without a value
none-later : {V : Type 0} (alike : V → V → Bool) (v : V) (xs : List (DayRange × V)) (n : ℕ) → list_any (λ (y : DayRange × V). alike v y.1) xs ≡ false → given_on alike xs v n ≡ false
none-later alike v [] n none = refl
none-later {V} alike v (y ∷ xs) n none = by (alike v y.1) (holds y.0 n) refl none (none-later alike v xs n)
  where
    among : Bool
    among = list_any (λ (z : DayRange × V). alike v z.1) xs

    by : (a b : Bool) → alike v y.1 ≡ a → (a || among) ≡ false → (among ≡ false → given_on alike xs v n ≡ false) → list_any (alike v) (if b then y.1 ∷ held_on xs n else held_on xs n) ≡ false
    by true b e h so = cc
    by false true e h so = ap (λ a. a || given_on alike xs v n) e ∙ so h
    by false false e h so = so h

-- the days of a value in two lists, and in one with a last period
pub on-append : {V : Type 0} (alike : V → V → Bool) (xs ys : List (DayRange × V)) (v : V) (n : ℕ) → given_on alike (xs ++ ys) v n ≡ (given_on alike xs v n || given_on alike ys v n)
on-append alike xs ys v n = ap (list_any (alike v)) (held_on-append xs ys n) ∙ list_any-append (alike v) (held_on xs n) (held_on ys n)

on-last : {V : Type 0} (alike : V → V → Bool) (xs : List (DayRange × V)) (x : DayRange × V) (v : V) (n : ℕ) (b : Bool) → holds x.0 n ≡ b → given_on alike (xs ++ x ∷ []) v n ≡ (given_on alike xs v n || list_any (alike v) (if b then x.1 ∷ [] else []))
on-last alike xs x v n b e = on-append alike xs (x ∷ []) v n ∙ ap (λ c. given_on alike xs v n || list_any (alike v) (if c then x.1 ∷ [] else [])) e

-- the periods from one on
pub rest-next : {V : Type 0} (xs : List V) (i j : ℕ) (x : V) (end : List V) → j + 1 ≡ i → j < length xs → x ≡ slice_index_or xs j x → drop j xs ++ end ≡ x ∷ drop i xs ++ end
rest-next xs i j x end next lt is =
    ap (λ ys. ys ++ end) (drop_more xs j x lt ∙ ap (λ k. slice_index_or xs j x ∷ drop k xs) next ∙ ap (λ y. y ∷ drop i xs) (sym is))

-- the list up to the next period
pub upto-next : {X : Type 0} (xs : List X) (i : ℕ) (x : X) → i < length xs → x ≡ slice_index_or xs i x → take (i + 1) xs ≡ take i xs ++ x ∷ []
upto-next xs i x lt is = take_more xs i x lt ∙ ap (λ y. take i xs ++ y ∷ []) (sym is)

-- ---- marks in place of values

-- the marked days are the days of the periods
has-mark : (periods : List DayRange) (marks : List ℕ) (n : ℕ) → ((m : ℕ) → 36525 ≤ m → is_held periods m ≡ false) → marks ≡ each_day (mark_on periods) → has_value nat_eq marks 1 n ≡ is_held periods n
has-mark periods marks n past are =
    let size : length marks ≡ 36525 = ap length are ∙ length-each_day (mark_on periods) in
    elim (le_or_lt (length marks) n) [
      | inl after ↦ has_value-past nat_eq marks 1 n after ∙ sym (past n (omega arith))
      | inr within ↦ has_value-at nat_eq 0 marks 1 n within ∙ ap (nat_eq 1) (ap (λ ms. slice_index_or ms n 0) are ∙ index-each_day (mark_on periods) n 0 (omega arith)) ∙ one (is_held periods n)
    ]
  where
    one : (b : Bool) → nat_eq 1 (if b then 1 else 0) ≡ b
    one true = refl
    one false = refl

pub cover-marked : {V : Type 0} (periods : List DayRange) (v : V) (marks : List ℕ) → ((m : ℕ) → 36525 ≤ m → is_held periods m ≡ false) → marks ≡ each_day (mark_on periods) → map (λ (period : DayRange). (period, v)) (cover (has_value nat_eq marks 1) (length marks)) ≡ held_cover periods v
cover-marked periods v marks past are =
    ap (λ is_in. map (λ (period : DayRange). (period, v)) (cover is_in (length marks))) (fun_ext (λ n. has-mark periods marks n past are))
    ∙ ap (λ end. map (λ (period : DayRange). (period, v)) (cover (is_held periods) end)) (ap length are ∙ length-each_day (mark_on periods) ∙ sym day_count-is)

-- periods with the days of a value have none after the calendar, and the cover of its days
pub none-past : {V : Type 0} (alike : V → V → Bool) (xs : List (DayRange × V)) (v : V) (periods : List DayRange) (n : ℕ) → All (λ (given : DayRange × V). given.0.last < 36525) xs → is_held periods n ≡ given_on alike xs v n → 36525 ≤ n → is_held periods n ≡ false
none-past alike xs v periods n ends is past = is ∙ ap (list_any (alike v)) (held-past xs n ends past)

pub cover-given : {V : Type 0} (alike : V → V → Bool) (xs : List (DayRange × V)) (v : V) (periods : List DayRange) → ((n : ℕ) → is_held periods n ≡ given_on alike xs v n) → held_cover periods v ≡ given_cover alike xs v
cover-given alike xs v periods are = ap (λ is_in. map (λ (period : DayRange). (period, v)) (cover is_in day_count)) (fun_ext are)

-- ---- the pieces

-- what is pushed for a period that holds a day, and for one that holds none
alone-held : {V : Type 0} (p : DayRange) (v : V) (periods : List DayRange) → cover (holds p) day_count ≡ periods → held_cover (p ∷ []) v ≡ map (λ (period : DayRange). (period, v)) periods
alone-held p v periods are = ap (map (λ (period : DayRange). (period, v))) (ap (λ is_in. cover is_in day_count) (fun_ext (λ n. or-false (holds p n))) ∙ are)

pub pushed_one : {V : Type 0} (pieces more : List (DayRange × V)) (p q : DayRange) (v w : V) → cover (holds p) day_count ≡ q ∷ [] → w ≡ v → more ≡ pieces ++ (q, w) ∷ [] → more ≡ pieces ++ held_cover (p ∷ []) v
pushed_one pieces more p q v w one same is = is ∙ ap (λ u. pieces ++ (q, u) ∷ []) same ∙ ap (λ l. pieces ++ l) (sym (alone-held p v (q ∷ []) one))

pub pushed_none : {V : Type 0} (pieces : List (DayRange × V)) (p : DayRange) (v : V) → cover (holds p) day_count ≡ [] → pieces ≡ pieces ++ held_cover (p ∷ []) v
pushed_none pieces p v none = sym (append-nil pieces) ∙ ap (λ l. pieces ++ l) (sym (alone-held p v [] none))

pub take-whole : {X : Type 0} (n : ℕ) (xs : List X) → length xs ≤ n → take n xs ≡ xs
take-whole zero [] h = refl
take-whole (suc n) [] h = refl
take-whole zero (x ∷ xs) h = absurd (omega arith)
take-whole (suc n) (x ∷ xs) h = ap (λ ys. x ∷ ys) (take-whole n xs (omega arith))

-- the periods after one, as the rest of a slice
pub later-whole : {X : Type 0} (xs : List X) (k : ℕ) → take (length xs - k) (drop k xs) ≡ drop k xs
later-whole xs k = take-whole (length xs - k) (drop k xs) (simp length-drop (omega arith))

-- a value that comes later too is passed over
pub values-later : {V : Type 0} (alike : V → V → Bool) (xs : List (DayRange × V)) (i : ℕ) (x : DayRange × V) → i < length xs → x ≡ slice_index_or xs i x → list_any (λ (y : DayRange × V). alike x.1 y.1) (drop (i + 1) xs) ≡ true → last_values alike (drop i xs) ≡ last_values alike (drop (i + 1) xs)
values-later alike xs i x lt is some =
    ap (last_values alike) (drop_more xs i x lt ∙ ap (λ y. y ∷ drop (i + 1) xs) (sym is))
    ∙ ap (λ b. if b then last_values alike (drop (i + 1) xs) else last_values alike (drop (i + 1) xs) ++ x.1 ∷ []) some

values-own : {V : Type 0} (alike : V → V → Bool) (xs : List (DayRange × V)) (i : ℕ) (x : DayRange × V) → i < length xs → x ≡ slice_index_or xs i x → list_any (λ (y : DayRange × V). alike x.1 y.1) (drop (i + 1) xs) ≡ false → last_values alike (drop i xs) ≡ last_values alike (drop (i + 1) xs) ++ x.1 ∷ []
values-own alike xs i x lt is none =
    ap (last_values alike) (drop_more xs i x lt ∙ ap (λ y. y ∷ drop (i + 1) xs) (sym is))
    ∙ ap (λ b. if b then last_values alike (drop (i + 1) xs) else last_values alike (drop (i + 1) xs) ++ x.1 ∷ []) none

-- the days of a value that no later period has
cover-last : {V : Type 0} (alike : V → V → Bool) (xs : List (DayRange × V)) (i : ℕ) (x : DayRange × V) → i < length xs → x ≡ slice_index_or xs i x → list_any (λ (y : DayRange × V). alike x.1 y.1) (drop (i + 1) xs) ≡ false → given_cover alike (take i xs ++ x ∷ []) x.1 ≡ given_cover alike xs x.1
cover-last {V} alike xs i x lt is none = ap (λ is_in. map (λ (period : DayRange). (period, x.1)) (cover is_in day_count)) (fun_ext same)
  where
    whole : (take i xs ++ x ∷ []) ++ drop (i + 1) xs ≡ xs
    whole = ap (λ ys. ys ++ drop (i + 1) xs) (sym (upto-next xs i x lt is)) ∙ take-append-drop (i + 1) xs

    same : (n : ℕ) → given_on alike (take i xs ++ x ∷ []) x.1 n ≡ given_on alike xs x.1 n
    same n =
        sym (ap (λ ys. given_on alike ys x.1 n) (sym whole) ∙ on-append alike (take i xs ++ x ∷ []) (drop (i + 1) xs) x.1 n
        ∙ ap (λ b. given_on alike (take i xs ++ x ∷ []) x.1 n || b) (none-later alike x.1 (drop (i + 1) xs) n none) ∙ or-false (given_on alike (take i xs ++ x ∷ []) x.1 n))

-- what is pushed for a value that no later period has
pub covers-more : {V : Type 0} (alike : V → V → Bool) (xs : List (DayRange × V)) (i : ℕ) (x : DayRange × V) (pieces more : List (DayRange × V)) → i < length xs → x ≡ slice_index_or xs i x → list_any (λ (y : DayRange × V). alike x.1 y.1) (drop (i + 1) xs) ≡ false → more ≡ pieces ++ given_cover alike (take i xs ++ x ∷ []) x.1
    → pieces ≡ flat_map (given_cover alike xs) (last_values alike (drop (i + 1) xs)) → more ≡ flat_map (given_cover alike xs) (last_values alike (drop i xs))
covers-more alike xs i x pieces more lt is none put was =
    let f = given_cover alike xs in let values = last_values alike (drop (i + 1) xs) in
    put ∙ ap (λ l. pieces ++ l) (cover-last alike xs i x lt is none) ∙ ap (λ l. l ++ f x.1) was
    ∙ sym (flat_map-append f values (x.1 ∷ []) ∙ ap (λ l. flat_map f values ++ l) (append-nil (f x.1))) ∙ sym (ap (flat_map f) (values-own alike xs i x lt is none))

flat-same : {X Y : Type 0} (f g : X → List Y) (xs : List X) → ((x : X) → In x xs → f x ≡ g x) → flat_map f xs ≡ flat_map g xs
flat-same f g [] h = refl
flat-same f g (x ∷ xs) h = ap (λ l. l ++ flat_map f xs) (h x (inl refl)) ∙ ap (λ l. g x ++ l) (flat-same f g xs (λ y i. h y (inr i)))

pub list-pieces : {V : Type 0} (alike : V → V → Bool) (nothing : V) → ((x y : V) → IsTrue (alike x y) ↔ (x ≡ y)) → (xs : List (DayRange × V)) (cuts : List ℕ) (days : List V) (pieces sorted : List (DayRange × V)) → AreApart nothing xs cuts → each_day (value_in nothing xs) ≡ days → pieces ≡ flat_map (given_cover alike xs) (last_values alike xs) → IsPermutation pieces sorted → IsNonDecreasingBy (λ (piece : DayRange × V). piece.0.first) sorted → sorted ≡ pieces_of alike nothing days
list-pieces {V} alike nothing exact xs cuts days pieces sorted a view are moved order =
    let size : length days ≡ 36525 = sym (ap length view) ∙ length-each_day (value_in nothing xs) in
    let day = λ (n : ℕ). slice_index_or days n nothing in
    let same : (v : V) → In v (last_values alike xs) → given_cover alike xs v ≡ pieces_with alike days v =
    λ v i. ap (λ is_in. map (λ (period : DayRange). (period, v)) (cover is_in day_count)) (fun_ext (λ n. days-of alike nothing exact xs cuts days v n a view (last-given alike nothing xs v a.given i)))
    ∙ ap (λ end. map (λ (period : DayRange). (period, v)) (cover (has_value alike days v) end)) (day_count-is ∙ sym size) in
    pieces-once alike nothing exact days (last_values alike xs) pieces sorted
    (λ n h.
    let value : day n ≡ value_in nothing xs n = ap (λ ds. slice_index_or ds n nothing) (sym view) ∙ index-each_day (value_in nothing xs) n nothing (omega arith) in
    ap (λ x. filter (λ v. alike v x) (last_values alike xs)) value ∙ once-each alike nothing exact xs cuts n a ∙ ap (λ x. alone alike nothing x) (sym value))
    (are ∙ flat-same (given_cover alike xs) (pieces_with alike days) (last_values alike xs) same) moved order
