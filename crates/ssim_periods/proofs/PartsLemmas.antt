-- The list after a change of the days of a period: what stays of each entry, followed by what is
-- added, holds each day at most once, and its cuts are the old ones and those of the period.
use Rattle.std.proofs.Common.{◌≡◌, ◌≢◌, ◌⊎◌, inl, inr, ℕ, zero, suc, ◌+◌, ◌-◌, ◌<◌, ◌≤◌, max, min, ◌&&◌, ◌||◌, Bool, true, false, if◌then◌else◌, nat_le, nat_lt, Option, Some, None, is_some, List, [], ◌∷◌, ◌++◌, length, take, drop, slice_index_or, slice_set, refl, ap, subst, sym, ◌∙◌, arith, IsTrue, ◌↔◌}
use Rattle.std.specs.List.{All, Contains}
use Rattle.std.proofs.lemmas.Bool.Decides.{nat_tests}
use Rattle.std.proofs.lemmas.List.{take_more, drop_more}
use Rattle.std.proofs.lemmas.List.Elements.{All-append}
use Rattle.ssim_values.specs.Period.{DayRange}
use Rattle.ssim_periods.specs.Calendar.{holds}
use Rattle.ssim_periods.specs.CommonDays.{meet}
use Rattle.ssim_periods.specs.Days.{each_day, changed_on}
use Rattle.ssim_periods.specs.Pieces.{held_on}
use Rattle.ssim_periods.specs.internal.Apart.{value_in, AreApart}
use Rattle.ssim_periods.specs.internal.Splits.{with_cut}
use Rattle.ssim_periods.specs.internal.Parts.{any_weekday, days_of_both, days_of_one, part, before_part, beside_part, after_part, common_part, first_of, first_part, second_part, third_part, with_value, with_outcome, kept_of, added_of, kept_parts, added_parts}
use Rattle.ssim_periods.proofs.ApplyLemmas.{All-with_cut, with_cut-keeps, with_cut-own}
use Rattle.ssim_periods.proofs.CutLemmas.{rising-with_cut}
use Rattle.ssim_periods.proofs.DayLemmas.{each_day-same, changed_on-each_day, holds-Holds}
use Rattle.ssim_periods.proofs.GatherLemmas.{drop-all}
use Rattle.ssim_periods.proofs.PartLemmas.{entry-day, new, one}
use Rattle.ssim_periods.proofs.PieceLaw.{held_on-append}

-- ---- the values that a day has

none-both : {V : Type 0} (xs ys : List V) → xs ++ ys ≡ [] → (xs ≡ []) × (ys ≡ [])
none-both [] ys h = (refl, h)
none-both (x ∷ xs) ys h = absurd cc

append-none : {V : Type 0} (xs : List V) → xs ++ [] ≡ xs
append-none [] = refl
append-none (x ∷ xs) = ap (λ ys. x ∷ ys) (append-none xs)

none-left : {V : Type 0} (v : V) (vs : List V) → length (v ∷ vs) ≤ 1 → vs ≡ []
none-left v [] h = refl
none-left v (w ∷ vs) h = absurd (omega arith)

-- the outcomes that are not empty
abbrev pub outcomes : {V : Type 0} → (V → V → Bool) → V → (V → V) → List V → List V
outcomes alike nothing f [] = []
outcomes alike nothing f (v ∷ vs) = (if alike (f v) nothing then [] else f v ∷ []) ++ outcomes alike nothing f vs

abbrev pub wanted : {V : Type 0} → (V → V → Bool) → V → (V → V) → Bool → List V → List V
wanted alike nothing f b vs = if b then outcomes alike nothing f vs else vs

wanted-none : {V : Type 0} (alike : V → V → Bool) (nothing : V) (f : V → V) (b : Bool) → wanted alike nothing f b [] ≡ []
wanted-none alike nothing f true = refl
wanted-none alike nothing f false = refl

-- on each day at most one part holds, with the value that is wanted
pub held-parts : {V : Type 0} (alike : V → V → Bool) (nothing : V) (f : V → V) (q : DayRange) (es : List (DayRange × V)) (n : ℕ) → q.first ≤ q.last → q.last < 36525 → length (held_on es n) ≤ 1 →
    held_on (kept_parts q es) n ++ held_on (added_parts alike nothing f q es) n ≡ wanted alike nothing f (holds q n) (held_on es n)
held-parts alike nothing f q [] n o fits once = sym (wanted-none alike nothing f (holds q n))
held-parts {V} alike nothing f q (e ∷ es) n o fits once =
    ap (λ vs. vs ++ held_on (added_parts alike nothing f q es ++ added_of alike nothing f q e) n) (held_on-append (kept_of q e) (kept_parts q es) n)
    ∙ ap (λ vs. (held_on (kept_of q e) n ++ held_on (kept_parts q es) n) ++ vs) (held_on-append (added_parts alike nothing f q es) (added_of alike nothing f q e) n)
    ∙ by (λ few. held-parts alike nothing f q es n o fits few) (holds e.0 n) once (entry-day alike nothing f q e n o fits)
  where
    own : List V
    own = held_on (kept_of q e) n

    more : List V
    more = held_on (added_of alike nothing f q e) n

    stay : List V
    stay = held_on (kept_parts q es) n

    come : List V
    come = held_on (added_parts alike nothing f q es) n

    off : (c : Bool) → (if c then new alike nothing f e.1 false else one false e.1) ≡ []
    off true = elim (alike (f e.1) nothing) as (λ t. (if t then [] else one false (f e.1)) ≡ []) [ true ↦ refl | false ↦ refl ]
    off false = refl

    first : (c : Bool) (vs : List V) → vs ≡ [] → (if c then (if alike (f e.1) nothing then [] else f e.1 ∷ []) else e.1 ∷ []) ≡ wanted alike nothing f c (e.1 ∷ vs)
    first true vs none = sym (ap (λ us. (if alike (f e.1) nothing then [] else f e.1 ∷ []) ++ outcomes alike nothing f us) none ∙ append-none (if alike (f e.1) nothing then [] else f e.1 ∷ []))
    first false vs none = ap (λ us. e.1 ∷ us) (sym none)

    by : (length (held_on es n) ≤ 1 → stay ++ come ≡ wanted alike nothing f (holds q n) (held_on es n)) → (b : Bool) → length (if b then e.1 ∷ held_on es n else held_on es n) ≤ 1 → own ++ more ≡ (if holds q n then (if alike (f e.1) nothing then [] else (if b then f e.1 ∷ [] else [])) else (if b then e.1 ∷ [] else []))
        → (own ++ stay) ++ (come ++ more) ≡ wanted alike nothing f (holds q n) (if b then e.1 ∷ held_on es n else held_on es n)
    by rest true few day =
        let none = none-left e.1 (held_on es n) few in
        let away = none-both stay come (rest (subst (λ vs. length vs ≤ 1) (sym none) (omega arith)) ∙ ap (wanted alike nothing f (holds q n)) none ∙ wanted-none alike nothing f (holds q n)) in
        ap (λ vs. (own ++ vs) ++ (come ++ more)) away.0 ∙ ap (λ vs. (own ++ []) ++ (vs ++ more)) away.1 ∙ ap (λ vs. vs ++ more) (append-none own)
        ∙ day ∙ first (holds q n) (held_on es n) none
    by rest false few day =
        let away = none-both own more (day ∙ off (holds q n)) in
        ap (λ vs. (vs ++ stay) ++ (come ++ more)) away.0 ∙ ap (λ vs. stay ++ (come ++ vs)) away.1 ∙ ap (λ vs. stay ++ vs) (append-none come) ∙ rest few

pub held-all : {V : Type 0} (alike : V → V → Bool) (nothing : V) (f : V → V) (q : DayRange) (es : List (DayRange × V)) (n : ℕ) → q.first ≤ q.last → q.last < 36525 → length (held_on es n) ≤ 1 →
    held_on (kept_parts q es ++ added_parts alike nothing f q es) n ≡ wanted alike nothing f (holds q n) (held_on es n)
held-all alike nothing f q es n o fits once = held_on-append (kept_parts q es) (added_parts alike nothing f q es) n ∙ held-parts alike nothing f q es n o fits once

few-outcomes : {V : Type 0} (alike : V → V → Bool) (nothing : V) (f : V → V) (vs : List V) → length vs ≤ 1 → length (outcomes alike nothing f vs) ≤ 1
few-outcomes alike nothing f [] few = few
few-outcomes alike nothing f (v ∷ []) few = elim (alike (f v) nothing) as (λ t. length ((if t then [] else f v ∷ []) ++ []) ≤ 1) [ true ↦ omega arith | false ↦ few ]
few-outcomes alike nothing f (v ∷ w ∷ vs) few = absurd (omega arith)

few-wanted : {V : Type 0} (alike : V → V → Bool) (nothing : V) (f : V → V) (b : Bool) (vs : List V) → length vs ≤ 1 → length (wanted alike nothing f b vs) ≤ 1
few-wanted alike nothing f true vs few = few-outcomes alike nothing f vs few
few-wanted alike nothing f false vs few = few

-- ---- the value of a day

abbrev pub last_of : {V : Type 0} → V → List V → V
last_of d [] = d
last_of d (v ∷ vs) = last_of v vs

pub value_in-last_of : {V : Type 0} (d : V) (es : List (DayRange × V)) (n : ℕ) → value_in d es n ≡ last_of d (held_on es n)
value_in-last_of d [] n = refl
value_in-last_of {V} d (e ∷ es) n = value_in-last_of (if holds e.0 n then e.1 else d) es n ∙ by (holds e.0 n)
  where
    by : (b : Bool) → last_of (if b then e.1 else d) (held_on es n) ≡ last_of d (if b then e.1 ∷ held_on es n else held_on es n)
    by true = refl
    by false = refl

last-wanted : {V : Type 0} (alike : V → V → Bool) (nothing : V) (f : V → V) → ((x y : V) → IsTrue (alike x y) ↔ (x ≡ y)) → (b : Bool) (vs : List V) → length vs ≤ 1 → (b ≡ true → vs ≡ [] → f nothing ≡ nothing) → last_of nothing (wanted alike nothing f b vs) ≡ (if b then f (last_of nothing vs) else last_of nothing vs)
last-wanted alike nothing f exact false vs few free = refl
last-wanted alike nothing f exact true [] few free = sym (free refl refl)
last-wanted {V} alike nothing f exact true (v ∷ []) few free = by (alike (f v) nothing) refl
  where
    by : (t : Bool) → alike (f v) nothing ≡ t → last_of nothing ((if t then [] else f v ∷ []) ++ []) ≡ f v
    by true e = sym ((exact (f v) nothing).0 e)
    by false e = refl
last-wanted alike nothing f exact true (v ∷ w ∷ vs) few free = absurd (omega arith)

pub parts-days : {V : Type 0} (alike : V → V → Bool) (nothing : V) (f : V → V) → ((x y : V) → IsTrue (alike x y) ↔ (x ≡ y)) → (q : DayRange) (es ys : List (DayRange × V)) (days : List V) → q.first ≤ q.last → q.last < 36525 → ((n : ℕ) → length (held_on es n) ≤ 1) →
    ((n : ℕ) → holds q n ≡ true → held_on es n ≡ [] → f nothing ≡ nothing) → each_day (value_in nothing es) ≡ days → ys ≡ kept_parts q es ++ added_parts alike nothing f q es → each_day (value_in nothing ys) ≡ changed_on (holds q) f 0 days
parts-days alike nothing f exact q es ys days o fits once free view is =
    ap (λ xs. each_day (value_in nothing xs)) is
    ∙ each_day-same (value_in nothing (kept_parts q es ++ added_parts alike nothing f q es)) (λ n. if holds q n then f (value_in nothing es n) else value_in nothing es n) (λ n l.
    value_in-last_of nothing (kept_parts q es ++ added_parts alike nothing f q es) n
    ∙ ap (last_of nothing) (held-all alike nothing f q es n o fits (once n))
    ∙ last-wanted alike nothing f exact (holds q n) (held_on es n) (once n) (free n)
    ∙ sym (ap (λ v. if holds q n then f v else v) (value_in-last_of nothing es n)))
    ∙ sym (changed_on-each_day (holds q) f (value_in nothing es))
    ∙ ap (changed_on (holds q) f 0) view

-- a day that no entry holds keeps the empty value
pub keeps-empty : {V : Type 0} (nothing : V) (f : V → V) (q : DayRange) (read xs : List (DayRange × V)) (free : ℕ) → q.last < 36525 → read ≡ xs → (free ≡ 0 → (n : ℕ) → n < 36525 → holds q n ≡ true → held_on read n ≢ []) → (free ≡ 0) ⊎ (f nothing ≡ nothing) → (n : ℕ) → holds q n ≡ true → held_on xs n ≡ [] → f nothing ≡ nothing
keeps-empty nothing f q read xs free fits is some (inr same) n on none = same
keeps-empty nothing f q read xs free fits is some (inl all) n on none = let to = (holds-Holds q n on).1 in absurd (some all n (omega arith) on (ap (λ es. held_on es n) is ∙ none))

-- ---- what holds of each part

none-fail : {X : Type 0} (P : X → Type 0) → All P []
none-fail P k d l = absurd (omega arith)

one-passes : {X : Type 0} (P : X → Type 0) (x : X) → P x → All P (x ∷ [])
one-passes P x p zero d l = p
one-passes P x p (suc k) d l = absurd (omega arith)

all-kept : {V : Type 0} (P : DayRange × V → Type 0) (q : DayRange) (es : List (DayRange × V)) → ((e : DayRange × V) → P e → All P (kept_of q e)) → All P es → All P (kept_parts q es)
all-kept P q [] each all = none-fail P
all-kept P q (e ∷ es) each all = All-append P (kept_of q e) (kept_parts q es) (each e (all 0 e (omega arith))) (all-kept P q es each (λ k d l. all (suc k) d (omega arith)))

all-added : {V : Type 0} (P : DayRange × V → Type 0) (alike : V → V → Bool) (nothing : V) (f : V → V) (q : DayRange) (es : List (DayRange × V)) → ((e : DayRange × V) → P e → All P (added_of alike nothing f q e)) → All P es → All P (added_parts alike nothing f q es)
all-added P alike nothing f q [] each all = none-fail P
all-added P alike nothing f q (e ∷ es) each all =
    All-append P (added_parts alike nothing f q es) (added_of alike nothing f q e) (all-added P alike nothing f q es each (λ k d l. all (suc k) d (omega arith))) (each e (all 0 e (omega arith)))

pub all-parts : {V : Type 0} (P : DayRange × V → Type 0) (alike : V → V → Bool) (nothing : V) (f : V → V) (q : DayRange) (es : List (DayRange × V)) → ((e : DayRange × V) → P e → All P (kept_of q e)) → ((e : DayRange × V) → P e → All P (added_of alike nothing f q e)) → All P es → All P (kept_parts q es ++ added_parts alike nothing f q es)
all-parts P alike nothing f q es kept added all = All-append P (kept_parts q es) (added_parts alike nothing f q es) (all-kept P q es kept all) (all-added P alike nothing f q es added all)

-- a property of a period and of a value
both : {V : Type 0} → (DayRange → Type 0) → (V → Type 0) → DayRange × V → Type 0
both D W e = D e.0 × W e.1

abbrev IfPart : (DayRange → Type 0) → Option DayRange → Type 0
IfPart D None = ◌≤◌ 0 0
IfPart D (Some p) = D p

all-value : {V : Type 0} (D : DayRange → Type 0) (W : V → Type 0) (o : Option DayRange) (v : V) → IfPart D o → W v → All (both D W) (with_value o v)
unfolding both
all-value D W None v d w = none-fail (both D W)
all-value D W (Some p) v d w = one-passes (both D W) (p, v) (d, w)

all-outcome : {V : Type 0} (D : DayRange → Type 0) (W : V → Type 0) (alike : V → V → Bool) (nothing : V) (o : Option DayRange) (v : V) → IfPart D o → (alike v nothing ≡ false → W v) → All (both D W) (with_outcome alike nothing o v)
all-outcome {V} D W alike nothing o v d w = by (alike v nothing) refl
  where
    by : (t : Bool) → alike v nothing ≡ t → All (both D W) (if t then [] else with_value o v)
    by true e = none-fail (both D W)
    by false e = all-value D W o v d (w e)

-- the properties of the parts
record AreParts (D : DayRange → Type 0) (p q : DayRange) : Type 0 where
  before : IfPart D (before_part p q)
  beside : IfPart D (beside_part p q)
  after : IfPart D (after_part p q)
  common : IfPart D (common_part p q)

if-first : (D : DayRange → Type 0) (a b : Option DayRange) → IfPart D a → IfPart D b → IfPart D (first_of a b)
if-first D None b x y = y
if-first D (Some p) b x y = x

if-some : (D : DayRange → Type 0) (t : Bool) (a : Option DayRange) → IfPart D a → IfPart D (if t then a else None)
if-some D true a x = x
if-some D false a x = omega arith

kept-passes : {V : Type 0} (D : DayRange → Type 0) (W : V → Type 0) (q : DayRange) (e : DayRange × V) → AreParts D e.0 q → both D W e → All (both D W) (kept_of q e)
unfolding both
kept-passes {V} D W q e parts own = by (meet q e.0)
  where
    by : (m : Bool) → All (both D W) (if m then with_value (first_part e.0 q) e.1 else e ∷ [])
    by true = all-value D W (first_part e.0 q) e.1 (if-first D (before_part e.0 q) (first_of (beside_part e.0 q) (after_part e.0 q)) parts.before (if-first D (beside_part e.0 q) (after_part e.0 q) parts.beside parts.after)) own.1
    by false = one-passes (both D W) e own

added-passes : {V : Type 0} (D : DayRange → Type 0) (W : V → Type 0) (alike : V → V → Bool) (nothing : V) (f : V → V) (q : DayRange) (e : DayRange × V) → AreParts D e.0 q → ((v : V) → alike v nothing ≡ false → W v) → both D W e → All (both D W) (added_of alike nothing f q e)
unfolding both
added-passes {V} D W alike nothing f q e parts some own = by (meet q e.0)
  where
    second : List (DayRange × V)
    second = with_value (second_part e.0 q) e.1

    third : List (DayRange × V)
    third = with_value (third_part e.0 q) e.1

    last : List (DayRange × V)
    last = with_outcome alike nothing (common_part e.0 q) (f e.1)

    by : (m : Bool) → All (both D W) (if m then (second ++ third) ++ last else [])
    by true =
        All-append (both D W) (second ++ third) last
        (All-append (both D W) second third (all-value D W (second_part e.0 q) e.1 (if-some D (is_some (before_part e.0 q)) (beside_part e.0 q) parts.beside) own.1)
        (all-value D W (third_part e.0 q) e.1 (if-some D (is_some (before_part e.0 q) || is_some (beside_part e.0 q)) (after_part e.0 q) parts.after) own.1))
        (all-outcome D W alike nothing (common_part e.0 q) (f e.1) parts.common (some (f e.1)))
    by false = none-fail (both D W)

-- ---- the ends of the parts

abbrev Ends : List ℕ → DayRange → Type 0
Ends cuts p = Contains cuts p.first × Contains cuts (p.last + 1)

part-ends : (cuts : List ℕ) (first end : ℕ) (days : List Bool) → Contains cuts first → Contains cuts end → IfPart (Ends cuts) (part first end days)
part-ends cuts first end days from to = by (nat_lt first end) (any_weekday days) refl
  where
    by : (b c : Bool) → nat_lt first end ≡ b → IfPart (Ends cuts) (if b && c then Some (record { first = first; last = end - 1; days = days }) else None)
    by true true e = let up : end ≡ end - 1 + 1 = grind (arith, nat_tests) in (from, subst (Contains cuts) up to)
    by true false e = omega arith
    by false c e = omega arith

of-max : (cuts : List ℕ) (a b : ℕ) → Contains cuts a → Contains cuts b → Contains cuts (max a b)
of-max cuts a b x y = by (nat_le a b) refl
  where
    by : (t : Bool) → nat_le a b ≡ t → Contains cuts (max a b)
    by true e = let is : b ≡ max a b = grind (arith, nat_tests) in subst (Contains cuts) is y
    by false e = let is : a ≡ max a b = grind (arith, nat_tests) in subst (Contains cuts) is x

of-min : (cuts : List ℕ) (a b c : ℕ) → Contains cuts a → Contains cuts b → c ≡ min a b → Contains cuts c
of-min cuts a b c x y k = by (nat_le a b) refl
  where
    by : (t : Bool) → nat_le a b ≡ t → Contains cuts c
    by true e = let is : a ≡ c = grind (arith, nat_tests) in subst (Contains cuts) is x
    by false e = let is : b ≡ c = grind (arith, nat_tests) in subst (Contains cuts) is y

min-up : (a b : ℕ) → min a b + 1 ≡ min (a + 1) (b + 1)
min-up a b = by (nat_le a b) refl
  where
    by : (t : Bool) → nat_le a b ≡ t → min a b + 1 ≡ min (a + 1) (b + 1)
    by true e = grind (arith, nat_tests)
    by false e = grind (arith, nat_tests)

parts-ends : (cuts : List ℕ) (p q : DayRange) → Ends cuts p → Ends cuts q → AreParts (Ends cuts) p q
parts-ends cuts p q own its =
    let from = of-max cuts p.first q.first own.0 its.0 in
    let to = of-min cuts (p.last + 1) (q.last + 1) (min p.last q.last + 1) own.1 its.1 (min-up p.last q.last) in
    record {
      before = part-ends cuts p.first (min (p.last + 1) q.first) p.days own.0 (of-min cuts (p.last + 1) q.first (min (p.last + 1) q.first) own.1 its.0 refl);
      beside = part-ends cuts (max p.first q.first) (min p.last q.last + 1) (days_of_one p.days q.days) from to;
      after = part-ends cuts (max p.first (q.last + 1)) (p.last + 1) p.days (of-max cuts p.first (q.last + 1) own.0 its.1) own.1;
      common = part-ends cuts (max p.first q.first) (min p.last q.last + 1) (days_of_both p.days q.days) from to;
    }

-- ---- the list

pub parts-apart : {V : Type 0} (alike : V → V → Bool) (nothing : V) (f : V → V) → ((x y : V) → IsTrue (alike x y) ↔ (x ≡ y)) → (q : DayRange) (es ys : List (DayRange × V)) (cuts more : List ℕ) (first end : ℕ) → AreApart nothing es cuts → q.first ≤ q.last → q.last < 36525 →
    first ≡ q.first → end ≡ q.last + 1 → ys ≡ kept_parts q es ++ added_parts alike nothing f q es → more ≡ with_cut (with_cut cuts first) end → AreApart nothing ys more
unfolding both
parts-apart {V} alike nothing f exact q es ys cuts more first end a o fits starts ends is cut =
    subst (λ (xs : List (DayRange × V)). AreApart nothing xs more) (sym is) (subst (λ (cs : List ℕ). AreApart nothing all cs) (sym cut) (record {
      once = λ n. subst (λ vs. length vs ≤ 1) (sym (held-all alike nothing f q es n o fits (a.once n))) (few-wanted alike nothing f (holds q n) (held_on es n) (a.once n));
      given = λ k d l. (each k d l).1;
      divided = λ k d l. (each k d l).0;
      rising = rising-with_cut (with_cut cuts first) end (rising-with_cut cuts first a.rising);
      in_calendar = All-with_cut (λ c. c ≤ 36525) (with_cut cuts first) end (All-with_cut (λ c. c ≤ 36525) cuts first a.in_calendar (omega arith)) (omega arith);
    }))
  where
    all : List (DayRange × V)
    all = kept_parts q es ++ added_parts alike nothing f q es

    new : List ℕ
    new = with_cut (with_cut cuts first) end

    kept : (c : ℕ) → Contains cuts c → Contains new c
    kept c h = with_cut-keeps (with_cut cuts first) end c (with_cut-keeps cuts first c h)

    its : Ends new q
    its = (subst (Contains new) starts (with_cut-keeps (with_cut cuts first) end first (with_cut-own cuts first)), subst (Contains new) ends (with_cut-own (with_cut cuts first) end))

    W : V → Type 0
    W v = v ≢ nothing

    some : (v : V) → alike v nothing ≡ false → W v
    some v e h = let on : alike v nothing ≡ true = (exact v nothing).1 h in let bad : true ≡ false = sym on ∙ e in absurd cc

    each : All (both (Ends new) W) all
    each = all-parts (both (Ends new) W) alike nothing f q es
        (λ e own. kept-passes (Ends new) W q e (parts-ends new e.0 q own.0 its) own)
        (λ e own. added-passes (Ends new) W alike nothing f q e (parts-ends new e.0 q own.0 its) some own)
        (λ k d l. let old = a.divided k d l in ((kept _ old.0, kept _ old.1), a.given k d l))

-- ---- an entry between others

pub at-seam : {X : Type 0} (xs before after : List X) (entry x : X) (place : ℕ) → xs ≡ before ++ entry ∷ after → length before ≡ place → x ≡ slice_index_or xs place x → x ≡ entry
at-seam {X} xs before after entry x place is at its = its ∙ ap (λ ys. slice_index_or ys place x) is ∙ ap (λ k. slice_index_or (before ++ entry ∷ after) k x) (sym at) ∙ there before
  where
    there : (ys : List X) → slice_index_or (ys ++ entry ∷ after) (length ys) x ≡ entry
    there [] = refl
    there (y ∷ ys) = there ys

set-seam : {X : Type 0} (before after : List X) (entry x : X) → slice_set (before ++ entry ∷ after) (length before) x ≡ before ++ x ∷ after
set-seam [] after entry x = refl
set-seam (y ∷ before) after entry x = ap (λ ys. y ∷ ys) (set-seam before after entry x)

cut-seam : {X : Type 0} (before after : List X) (entry : X) → take (length before) (before ++ entry ∷ after) ++ drop (length before + 1) (before ++ entry ∷ after) ≡ before ++ after
cut-seam [] after entry = refl
cut-seam (y ∷ before) after entry =
    let next : suc (length before) + 1 ≡ suc (length before + 1) = omega arith in
    ap (λ k. (y ∷ take (length before) (before ++ entry ∷ after)) ++ drop k (y ∷ before ++ entry ∷ after)) next ∙ ap (λ ys. y ∷ ys) (cut-seam before after entry)

pub kept-some : {V : Type 0} (q : DayRange) (xs before after : List (DayRange × V)) (entry x y : DayRange × V) (place : ℕ) (o : Option DayRange) (p : DayRange) → xs ≡ before ++ entry ∷ after → length before ≡ place → x ≡ slice_index_or xs place x → y ≡ slice_index_or xs place y → o ≡ first_part x.0 q → o ≡ Some p →
    slice_set xs place (p, y.1) ≡ before ++ (with_value (first_part entry.0 q) entry.1 ++ after)
kept-some {V} q xs before after entry x y place o p is at own its from some =
    let same = at-seam xs before after entry x place is at own in
    let also = at-seam xs before after entry y place is at its in
    ap (λ ys. slice_set ys place (p, y.1)) is ∙ ap (λ k. slice_set (before ++ entry ∷ after) k (p, y.1)) (sym at) ∙ set-seam before after entry (p, y.1)
    ∙ ap (λ (z : DayRange × V). before ++ (p, z.1) ∷ after) also
    ∙ ap (λ a. before ++ (with_value a entry.1 ++ after)) (sym some ∙ from ∙ ap (λ (z : DayRange × V). first_part z.0 q) same)

pub kept-none : {V : Type 0} (q : DayRange) (xs new before after : List (DayRange × V)) (entry x : DayRange × V) (place : ℕ) (o : Option DayRange) → xs ≡ before ++ entry ∷ after → length before ≡ place → x ≡ slice_index_or xs place x → o ≡ first_part x.0 q → o ≡ None → new ≡ take place xs ++ drop (place + 1) xs →
    new ≡ before ++ (with_value (first_part entry.0 q) entry.1 ++ after)
kept-none {V} q xs new before after entry x place o is at own from none cut =
    let same = at-seam xs before after entry x place is at own in
    cut ∙ ap (λ ys. take place ys ++ drop (place + 1) ys) is ∙ ap (λ k. take k (before ++ entry ∷ after) ++ drop (k + 1) (before ++ entry ∷ after)) (sym at) ∙ cut-seam before after entry
    ∙ ap (λ a. before ++ (with_value a entry.1 ++ after)) (sym none ∙ from ∙ ap (λ (z : DayRange × V). first_part z.0 q) same)

-- ---- entry by entry, from the last

append-assoc : {X : Type 0} (xs : List X) (x : X) (ys : List X) → (xs ++ x ∷ []) ++ ys ≡ xs ++ x ∷ ys
append-assoc [] x ys = refl
append-assoc (z ∷ xs) x ys = ap (λ zs. z ∷ zs) (append-assoc xs x ys)

append-three : {X : Type 0} (xs ys zs : List X) → (xs ++ ys) ++ zs ≡ xs ++ (ys ++ zs)
append-three [] ys zs = refl
append-three (x ∷ xs) ys zs = ap (λ us. x ∷ us) (append-three xs ys zs)

length-take : {X : Type 0} (j : ℕ) (xs : List X) → j ≤ length xs → length (take j xs) ≡ j
length-take zero xs l = refl
length-take (suc j) [] l = absurd (omega arith)
length-take (suc j) (x ∷ xs) l = ap suc (length-take j xs (omega arith))

take-all : {X : Type 0} (n : ℕ) (xs : List X) → length xs ≡ n → take n xs ≡ xs
take-all zero [] l = refl
take-all zero (x ∷ xs) l = absurd (omega arith)
take-all (suc n) [] l = absurd (omega arith)
take-all (suc n) (x ∷ xs) l = ap (λ ys. x ∷ ys) (take-all n xs (omega arith))

-- the list at the start
pub kept-start : {V : Type 0} (q : DayRange) (xs first added : List (DayRange × V)) (count : ℕ) → xs ≡ first ++ added → length first ≡ count → xs ≡ take count first ++ (kept_parts q (drop count first) ++ added)
kept-start {V} q xs first added count is size =
    is ∙ sym (ap (λ ys. ys ++ added) (take-all count first size)) ∙ sym (ap (λ ys. take count first ++ (kept_parts q ys ++ added)) (drop-all first count (omega arith)))

-- the entry before those that are done
at-place : {V : Type 0} (q : DayRange) (xs first added : List (DayRange × V)) (i j : ℕ) (y : DayRange × V) → j + 1 ≡ i → i ≤ length first → xs ≡ take i first ++ (kept_parts q (drop i first) ++ added) → xs ≡ take j first ++ slice_index_or first j y ∷ (kept_parts q (drop i first) ++ added)
at-place q xs first added i j y next fits is =
    is ∙ ap (λ ys. ys ++ (kept_parts q (drop i first) ++ added)) (ap (λ k. take k first) (sym next) ∙ take_more first j y (omega arith)) ∙ append-assoc (take j first) (slice_index_or first j y) (kept_parts q (drop i first) ++ added)

rest-of : {V : Type 0} (q : DayRange) (first added : List (DayRange × V)) (i j : ℕ) (y : DayRange × V) → j + 1 ≡ i → i ≤ length first → take j first ++ (kept_parts q (drop j first) ++ added) ≡ take j first ++ (kept_of q (slice_index_or first j y) ++ (kept_parts q (drop i first) ++ added))
rest-of q first added i j y next fits =
    ap (λ ys. take j first ++ (kept_parts q ys ++ added)) (drop_more first j y (omega arith) ∙ ap (λ k. slice_index_or first j y ∷ drop k first) next)
    ∙ ap (λ ys. take j first ++ ys) (append-three (kept_of q (slice_index_or first j y)) (kept_parts q (drop i first)) added)

pub kept-met : {V : Type 0} (q : DayRange) (xs new first added : List (DayRange × V)) (i j : ℕ) (y : DayRange × V) → j + 1 ≡ i → i ≤ length first → y ≡ slice_index_or xs j y → meet q y.0 ≡ true → ((before after : List (DayRange × V)) (entry : DayRange × V) → xs ≡ before ++ entry ∷ after → length before ≡ j → new ≡ before ++ (with_value (first_part entry.0 q) entry.1 ++ after)) →
    xs ≡ take i first ++ (kept_parts q (drop i first) ++ added) → new ≡ take j first ++ (kept_parts q (drop j first) ++ added)
kept-met {V} q xs new first added i j y next fits its met gives is =
    let x = slice_index_or first j y in
    let place = at-place q xs first added i j y next fits is in
    let size = length-take j first (omega arith) in
    let same = at-seam xs (take j first) (kept_parts q (drop i first) ++ added) x y j place size its in
    let on : meet q x.0 ≡ true = ap (λ (z : DayRange × V). meet q z.0) (sym same) ∙ met in
    gives (take j first) (kept_parts q (drop i first) ++ added) x place size
    ∙ sym (rest-of q first added i j y next fits ∙ ap (λ b. take j first ++ ((if b then with_value (first_part x.0 q) x.1 else x ∷ []) ++ (kept_parts q (drop i first) ++ added))) on)

pub kept-apart : {V : Type 0} (q : DayRange) (xs first added : List (DayRange × V)) (i j : ℕ) (y : DayRange × V) → j + 1 ≡ i → i ≤ length first → y ≡ slice_index_or xs j y → meet q y.0 ≡ false →
    xs ≡ take i first ++ (kept_parts q (drop i first) ++ added) → xs ≡ take j first ++ (kept_parts q (drop j first) ++ added)
kept-apart {V} q xs first added i j y next fits its met is =
    let x = slice_index_or first j y in
    let place = at-place q xs first added i j y next fits is in
    let size = length-take j first (omega arith) in
    let same = at-seam xs (take j first) (kept_parts q (drop i first) ++ added) x y j place size its in
    let off : meet q x.0 ≡ false = ap (λ (z : DayRange × V). meet q z.0) (sym same) ∙ met in
    place ∙ sym (rest-of q first added i j y next fits ∙ ap (λ b. take j first ++ ((if b then with_value (first_part x.0 q) x.1 else x ∷ []) ++ (kept_parts q (drop i first) ++ added))) off)

pub added-next : {V : Type 0} (alike : V → V → Bool) (nothing : V) (f : V → V) (q : DayRange) (xs old new : List (DayRange × V)) (i j : ℕ) (x : DayRange × V) → j + 1 ≡ i → j < length xs → x ≡ slice_index_or xs j x → old ≡ added_parts alike nothing f q (drop i xs) → new ≡ old ++ added_of alike nothing f q x → new ≡ added_parts alike nothing f q (drop j xs)
added-next alike nothing f q xs old new i j x next lt is so more =
    more ∙ ap (λ ys. ys ++ added_of alike nothing f q x) so
    ∙ sym (ap (added_parts alike nothing f q) (drop_more xs j x lt ∙ ap (λ k. slice_index_or xs j x ∷ drop k xs) next ∙ ap (λ y. y ∷ drop i xs) (sym is)))
