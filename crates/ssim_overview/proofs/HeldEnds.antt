-- The latest ends of periods say which days one of them holds.
use Rattle.std.proofs.Common.{◌≡◌, ◌≢◌, ◌∙◌, ℕ, ◌+◌, ◌-◌, ◌++◌, ◌≤◌, ◌<◌, Bool, true, false, ◌&&◌}
use Rattle.std.proofs.Common.{◌||◌, nat_eq, nat_le, nat_lt, if◌then◌else◌, max, List, [], ◌∷◌, length}
use Rattle.std.proofs.Common.{take, get_or, set, slice_index_or, Option, None, Some, filter}
use Rattle.std.proofs.Common.{get_or-set_same, get_or-set_other, refl, sym, ap, ap₂, arith}
use Rattle.std.specs.List.{list_all, list_any, range_with_len}
use Rattle.std.specs.Option.{option_or}
use Rattle.std.proofs.lemmas.Bool.Decides.{nat_tests}
use Rattle.ssim_values.specs.Calendar.{slot}
use Rattle.ssim_values.specs.Period.{DayRange}
use Rattle.ssim_values.specs.Variation.{Offset}
use Rattle.ssim_periods.specs.Calendar.{holds}
use Rattle.ssim_periods.specs.Pieces.{held_on}
use Rattle.ssim_overview.specs.SaidRows.{beats, is_same, most, said, with_variation}
use Rattle.ssim_overview.specs.internal.HeldEnds.{before_ends, begun_end, first_end, latest_end}
use Rattle.ssim_overview.specs.internal.SaidRows.{Dated, dates_said}
use Rattle.ssim_overview.specs.declared.sayings.Saying.{Saying}
use Rattle.ssim_overview.proofs.SaidCut.{same_is}
use Rattle.ssim_overview.proofs.SaidDays.{agree}
use Rattle.ssim_overview.proofs.SaidHalves.{and_first, and_second}
use Rattle.ssim_overview.proofs.SaidMost.{best_is, is_beaten, never_itself, says}
use Rattle.ssim_overview.proofs.SaidSteps.{taken}

-- ---- ends

no_less : (a : ℕ) → max a 0 ≡ a
no_less a = omega arith

no_more : (a : ℕ) → max 0 a ≡ a
no_more a = omega arith

-- before a day on which it is not begun, a period has no end
unbegun : (n : ℕ) (p : DayRange) → n < p.first → begun_end n p ≡ 0
unbegun n p lt =
    let off : nat_le p.first n ≡ false = grind (arith, nat_tests) in
    ap (λ (b : Bool). if b && slice_index_or p.days (slot n) false then p.last + 1 else 0) off

same_slot : (n : ℕ) → slot (n + 7) ≡ slot n
same_slot n = omega arith

-- after it they are those of the week before, and the first ends
pub week_on : (from n : ℕ) (p : DayRange) → from ≤ n
    → max (first_end from (n + 7) p) (begun_end n p) ≡ begun_end (n + 7) p
week_on from n p le = by (nat_le p.first n) refl
  where
    by : (b : Bool) → nat_le p.first n ≡ b
        → max (first_end from (n + 7) p) (begun_end n p) ≡ begun_end (n + 7) p
    by true e =
        let off : nat_lt (n + 7) (max p.first from + 7) ≡ false = grind (arith, nat_tests) in
        let on : nat_le p.first (n + 7) ≡ true = grind (arith, nat_tests) in
        ap (λ (b : Bool). max (if b then begun_end (n + 7) p else 0) (begun_end n p)) off
        ∙ no_more (begun_end n p)
        ∙ ap₂ (λ (a : Bool) (k : ℕ). if a && slice_index_or p.days k false then p.last + 1 else 0)
        (e ∙ sym on) (sym (same_slot n))
    by false e =
        let late : n < p.first = grind (arith, nat_tests) in
        let on : nat_lt (n + 7) (max p.first from + 7) ≡ true = grind (arith, nat_tests) in
        ap₂ (λ (b : Bool) (k : ℕ). max (if b then begun_end (n + 7) p else 0) k) on (unbegun n p late)
        ∙ no_less (begun_end (n + 7) p)

-- ---- the latest of some ends

crossed : (a b d e : ℕ) → max (max a b) (max d e) ≡ max (max a d) (max b e)
crossed a b d e = omega arith

pub latest_both : (f g h : DayRange → ℕ) → ((p : DayRange) → max (f p) (g p) ≡ h p)
    → (xs : List Dated) → max (latest_end f xs) (latest_end g xs) ≡ latest_end h xs
latest_both f g h both [] = refl
latest_both f g h both (x ∷ xs) =
    crossed (f x.0) (latest_end f xs) (g x.0) (latest_end g xs)
    ∙ ap₂ max (both x.0) (latest_both f g h both xs)

assoc : (a b d : ℕ) → max a (max b d) ≡ max (max a b) d
assoc a b d = omega arith

latest_after : (f : DayRange → ℕ) (xs : List Dated) (x : Dated)
    → latest_end f (xs ++ x ∷ []) ≡ max (latest_end f xs) (f x.0)
latest_after f [] x = no_less (f x.0) ∙ sym (no_more (f x.0))
latest_after f (y ∷ xs) x =
    ap (max (f y.0)) (latest_after f xs x) ∙ assoc (f y.0) (latest_end f xs) (f x.0)

-- one period more
pub latest_more : (f : DayRange → ℕ) (xs : List Dated) (i : ℕ) (x : Dated) → i < length xs
    → x ≡ get_or xs i x
    → max (latest_end f (take i xs)) (f x.0) ≡ latest_end f (take (i + 1) xs)
latest_more f xs i x lt is =
    sym (ap (latest_end f) (taken xs i x lt is) ∙ latest_after f (take i xs) x)

-- ---- the ends at places

-- at the places before one the ends of all periods that have begun, and the first ends at the others
abbrev pub end_at : ℕ → ℕ → ℕ → DayRange → ℕ
end_at from place j = if nat_lt j place then begun_end (from + j) else first_end from (from + j)

-- one place more
pub place_more : (sayings : List Dated) (from count place : ℕ) (old new : List ℕ) → 7 ≤ place
    → place < count → length old ≡ count
    → ((j : ℕ) → j < count → get_or old j 0 ≡ latest_end (end_at from place j) sayings)
    → new ≡ set old place (max (get_or old place 0) (get_or old (place - 7) 0))
    → (j : ℕ) → j < count → get_or new j 0 ≡ latest_end (end_at from (place + 1) j) sayings
place_more sayings from count place old new seven lt len are added j below =
    ap (λ (l : List ℕ). get_or l j 0) added ∙ at (nat_eq place j) refl
  where
    v : ℕ
    v = max (get_or old place 0) (get_or old (place - 7) 0)

    test_same : (a b : Bool) → a ≡ b → (f g : DayRange → ℕ)
        → latest_end (if a then f else g) sayings ≡ latest_end (if b then f else g) sayings
    test_same a b e f g = ap (λ (t : Bool). latest_end (if t then f else g) sayings) e

    at : (b : Bool) → nat_eq place j ≡ b
        → get_or (set old place v) j 0 ≡ latest_end (end_at from (place + 1) j) sayings
    at true e =
        let same : j ≡ place = grind (arith, nat_tests) in
        let inside : place < length old = omega arith in
        let back : (from + (place - 7)) + 7 ≡ from + place = omega arith in
        let here : nat_lt place place ≡ false = grind (arith, nat_tests) in
        let there : nat_lt (place - 7) place ≡ true = grind (arith, nat_tests) in
        let next : true ≡ nat_lt place (place + 1) = grind (arith, nat_tests) in
        ap (λ (k : ℕ). get_or (set old place v) k 0) same ∙ rw get_or-set_same refl
        ∙ ap₂ max
        (are place lt ∙ test_same (nat_lt place place) false here
        (begun_end (from + place)) (first_end from (from + place)))
        (are (place - 7) (omega arith) ∙ test_same (nat_lt (place - 7) place) true there
        (begun_end (from + (place - 7))) (first_end from (from + (place - 7))))
        ∙ ap (λ (n : ℕ). max (latest_end (first_end from n) sayings)
        (latest_end (begun_end (from + (place - 7))) sayings)) (sym back)
        ∙ latest_both (first_end from (from + (place - 7) + 7)) (begun_end (from + (place - 7)))
        (begun_end (from + (place - 7) + 7))
        (λ p. week_on from (from + (place - 7)) p (omega arith)) sayings
        ∙ ap (λ (n : ℕ). latest_end (begun_end n) sayings) back
        ∙ test_same true (nat_lt place (place + 1)) next
        (begun_end (from + place)) (first_end from (from + place))
        ∙ ap (λ (k : ℕ). latest_end (end_at from (place + 1) k) sayings) (sym same)
    at false e =
        let other : j ≢ place = grind (arith, nat_tests) in
        let is_old : get_or (set old place v) j 0 ≡ get_or old j 0 = rw get_or-set_other refl in
        let next : nat_lt j place ≡ nat_lt j (place + 1) = grind (arith, nat_tests) in
        is_old ∙ are j below
        ∙ test_same (nat_lt j place) (nat_lt j (place + 1)) next
        (begun_end (from + j)) (first_end from (from + j))

-- ---- the first week of one period

-- the first ends at the places before one
abbrev pub part_at : ℕ → DayRange → ℕ → ℕ → ℕ
part_at from p place j = if nat_lt j place then first_end from (from + j) p else 0

-- ---- what is said on a day

-- a day is before the greater of two ends if it is before one of them
before_max : (n a b : ℕ) → nat_lt n (max a b) ≡ (nat_lt n a || nat_lt n b)
before_max n a b = grind (arith, nat_tests)

-- a period that has begun holds the days before its end that are of its weekdays
holds_before : (n : ℕ) (p : DayRange) → nat_lt n (begun_end n p) ≡ holds p n
holds_before n p = by (nat_le p.first n) (slice_index_or p.days (slot n) false)
  where
    before : nat_lt n (p.last + 1) ≡ nat_le n p.last
    before = grind (arith, nat_tests)

    never : nat_lt n 0 ≡ false
    never = grind (arith, nat_tests)

    by : (a b : Bool) → nat_lt n (if a && b then p.last + 1 else 0) ≡ ((a && nat_le n p.last) && b)
    by true true = before ∙ and_true (nat_le n p.last)
      where
        and_true : (t : Bool) → t ≡ (t && true)
        and_true true = refl
        and_true false = refl
    by true false = never ∙ and_false (nat_le n p.last)
      where
        and_false : (t : Bool) → false ≡ (t && false)
        and_false true = refl
        and_false false = refl
    by false b = never

-- one of some periods holds a day if it is before the latest of their ends
any_before : (n : ℕ) (sayings : List Dated)
    → nat_lt n (latest_end (begun_end n) sayings) ≡ list_any (λ s. holds s.0 n) sayings
any_before n [] = grind (arith, nat_tests)
any_before n (x ∷ sayings) =
    before_max n (begun_end n x.0) (latest_end (begun_end n) sayings)
    ∙ ap₂ (λ (a b : Bool). a || b) (holds_before n x.0) (any_before n sayings)

-- all say one variation
abbrev pub all_say : Offset → List Dated → Bool
all_say v sayings = list_all (λ s. is_same s.1.variation v) sayings

-- whether there is one
abbrev has : List Saying → Bool
has [] = false
has (x ∷ xs) = true

filter_all : (p q : Saying → Bool) (xs : List Saying) → list_all p xs ≡ true
    → list_all p (filter q xs) ≡ true
filter_all p q [] h = refl
filter_all p q (x ∷ xs) h =
    by (q x) (and_first (p x) (list_all p xs) h)
    (filter_all p q xs (and_second (p x) (list_all p xs) h))
  where
    by : (b : Bool) → p x ≡ true → list_all p (filter q xs) ≡ true
        → list_all p (if b then x ∷ filter q xs else filter q xs) ≡ true
    by true here rest = ap (λ (t : Bool). t && list_all p (filter q xs)) here ∙ rest
    by false here rest = rest

-- one variation does not beat itself
unbeaten : (v : Offset) (all some : List Saying) → list_all (λ s. is_same s.variation v) some ≡ true
    → is_beaten all v some ≡ false
unbeaten v all [] h = refl
unbeaten v all (x ∷ some) h =
    ap₂ (λ (a b : Bool). a || b)
    (ap (λ (w : Offset). beats all w v) (same_is x.variation v
    (and_first (is_same x.variation v) (list_all (λ (s : Saying). is_same s.variation v) some) h))
    ∙ never_itself all v)
    (unbeaten v all some
    (and_second (is_same x.variation v) (list_all (λ (s : Saying). is_same s.variation v) some) h))

most_is : (v : Offset) (x : Saying) (xs : List Saying)
    → list_all (λ s. is_same s.variation v) (x ∷ xs) ≡ true → most (x ∷ xs) ≡ Some v
most_is v x xs h =
    sym (best_is (x ∷ xs) (Some v) (
      ap (λ (b : Bool). b || says v xs)
          (and_first (is_same x.variation v) (list_all (λ (s : Saying). is_same s.variation v) xs) h),
      unbeaten v (x ∷ xs) (x ∷ xs) h,
    ))

-- what all say counts
said_is : (v : Offset) (xs : List Saying) → list_all (λ s. is_same s.variation v) xs ≡ true
    → (if has xs then Some v else None) ≡ said xs
said_is v [] h = refl
said_is v (x ∷ xs) h =
    by (filter (λ s. s.is_own) (x ∷ xs))
    (filter_all (λ s. is_same s.variation v) (λ s. s.is_own) (x ∷ xs) h)
  where
    by : (own : List Saying) → list_all (λ s. is_same s.variation v) own ≡ true
        → Some v ≡ option_or (most own) (most (x ∷ xs))
    by [] all = sym (most_is v x xs h)
    by (y ∷ own) all =
        ap (λ (w : Option Offset). option_or w (most (x ∷ xs))) (sym (most_is v y own all))

all_held : (v : Offset) (n : ℕ) (sayings : List Dated) → all_say v sayings ≡ true
    → list_all (λ s. is_same s.variation v) (held_on sayings n) ≡ true
all_held v n [] h = refl
all_held v n (x ∷ sayings) h =
    by (holds x.0 n) (and_first (is_same x.1.variation v) (all_say v sayings) h)
    (all_held v n sayings (and_second (is_same x.1.variation v) (all_say v sayings) h))
  where
    by : (b : Bool) → is_same x.1.variation v ≡ true
        → list_all (λ s. is_same s.variation v) (held_on sayings n) ≡ true
        → list_all (λ s. is_same s.variation v)
        (if b then x.1 ∷ held_on sayings n else held_on sayings n) ≡ true
    by true here rest =
        ap (λ (t : Bool). t && list_all (λ (s : Saying). is_same s.variation v) (held_on sayings n))
        here
        ∙ rest
    by false here rest = rest

has_held : (n : ℕ) (sayings : List Dated)
    → list_any (λ s. holds s.0 n) sayings ≡ has (held_on sayings n)
has_held n [] = refl
has_held n (x ∷ sayings) = by (holds x.0 n) (has_held n sayings)
  where
    by : (b : Bool) → list_any (λ (s : Dated). holds s.0 n) sayings ≡ has (held_on sayings n)
        → (b || list_any (λ (s : Dated). holds s.0 n) sayings)
        ≡ has (if b then x.1 ∷ held_on sayings n else held_on sayings n)
    by true rest = refl
    by false rest = rest

-- what is said on a day that is before the latest end
day_says : (v : Offset) (n : ℕ) (sayings : List Dated) → all_say v sayings ≡ true
    → (if nat_lt n (latest_end (begun_end n) sayings) then Some v else None)
    ≡ said (held_on sayings n)
day_says v n sayings h =
    ap (λ (b : Bool). if b then Some v else None) (any_before n sayings ∙ has_held n sayings)
    ∙ said_is v (held_on sayings n) (all_held v n sayings h)

-- the dates on which it is said
pub only_dates : (v : Offset) (sayings : List Dated) (ends : List ℕ) (from end : ℕ)
    → all_say v sayings ≡ true → length ends ≡ end - from
    → ((j : ℕ) → j < end - from
    → get_or ends j 0 ≡ latest_end (begun_end (from + j)) sayings)
    → with_variation (before_ends ends from v) (range_with_len from (length ends))
    ≡ dates_said sayings from (end - from)
only_dates v sayings ends from end h len each =
    agree (before_ends ends from v) (λ n. said (held_on sayings n)) from (length ends)
    (λ n low high.
    let there : from + (n - from) ≡ n = omega arith in
    ap (λ (k : ℕ). if nat_lt n k then Some v else None)
    (each (n - from) (omega arith) ∙ ap (λ (m : ℕ). latest_end (begun_end m) sayings) there)
    ∙ day_says v n sayings h)
    ∙ ap (dates_said sayings from) len
