-- What parts, one after another, give to a date.
use Rattle.std.proofs.Common.{◌≡◌, ◌∙◌, ℕ, ◌+◌, ◌-◌, Bool, true, false, ◌&&◌, ◌||◌, nat_lt}
use Rattle.std.proofs.Common.{if◌then◌else◌, List, [], ◌∷◌, ◌++◌, refl, sym, ap}
use Rattle.std.proofs.lemmas.List.Folds.{list_any-append}
use Rattle.ssim_values.specs.Period.{DayRange}
use Rattle.ssim_periods.specs.Calendar.{holds}
use Rattle.ssim_periods.specs.Pieces.{held_on}
use Rattle.ssim_base.specs.Timetable.{Legs}
use Rattle.ssim_parts.specs.declared.moved_flight.MovedFlight.{MovedFlight}
use Rattle.ssim_parts.specs.declared.fate.Fate.{Fate}
use Rattle.ssim_parts.specs.declared.fate.Fate.TheVariants.{Absent, Left}
use Rattle.ssim_parts.specs.declared.fate.LeftReason.TheVariants.{Date}
use Rattle.ssim_parts.specs.internal.KeptDates.{came_from, is_kept_with, left_if_kept, or_legs}
use Rattle.ssim_parts.specs.internal.Placed.{IsKeptByParts, MovedPiece, fate_after, first_kept}
use Rattle.ssim_parts.specs.internal.Placed.{has_shift, is_one_kept}
use Rattle.ssim_parts.specs.internal.Placed.{last_fate, legs_at, legs_kept, legs_put}

-- one piece more
pub held_on-more : {V : Type 0} (pieces : List (DayRange × V)) (p : DayRange × V) (n : ℕ)
    → held_on (pieces ++ p ∷ []) n ≡ held_on pieces n ++ held_on (p ∷ []) n
held_on-more [] p n = refl
held_on-more {V} (q ∷ pieces) p n =
    elim (holds q.0 n) as (λ b. (if b then q.1 ∷ held_on (pieces ++ p ∷ []) n
    else held_on (pieces ++ p ∷ []) n) ≡ (if b then q.1 ∷ held_on pieces n else held_on pieces n)
    ++ held_on (p ∷ []) n) [
      | true ↦ ap (λ (l : List V). q.1 ∷ l) (held_on-more pieces p n)
      | false ↦ held_on-more pieces p n
    ]

-- ---- legs

abbrev nothing : Legs
nothing = []

or_assoc : (a b d : Legs) → or_legs (or_legs a b) d ≡ or_legs a (or_legs b d)
or_assoc [] b d = refl
or_assoc (leg ∷ a) b d = refl

pub or_none : (a : Legs) → or_legs a [] ≡ a
or_none [] = refl
or_none (leg ∷ a) = refl

first_kept-append : (s : ℕ) (xs ys : List MovedFlight)
    → first_kept s (xs ++ ys) ≡ or_legs (first_kept s xs) (first_kept s ys)
first_kept-append s [] ys = refl
first_kept-append s (x ∷ xs) ys =
    ap (or_legs (legs_kept s x)) (first_kept-append s xs ys)
    ∙ sym (or_assoc (legs_kept s x) (first_kept s xs) (first_kept s ys))

legs_at-more : (s : ℕ) (parts : List MovedPiece) (p : MovedPiece) (m : ℕ)
    → legs_at s (parts ++ p ∷ []) m ≡ or_legs (legs_at s parts m) (legs_at s (p ∷ []) m)
legs_at-more s parts p m =
    elim (nat_lt (m + 1) s) as (λ b. (if b then [] else first_kept s
    (held_on (parts ++ p ∷ []) (m + 1 - s))) ≡ or_legs (if b then [] else first_kept s
    (held_on parts (m + 1 - s))) (if b then [] else first_kept s (held_on (p ∷ []) (m + 1 - s)))) [
      | true ↦ refl
      | false ↦ ap (first_kept s) (held_on-more parts p (m + 1 - s))
          ∙ first_kept-append s (held_on parts (m + 1 - s)) (held_on (p ∷ []) (m + 1 - s))
    ]

pub legs_put-more : (s : ℕ) (parts : List MovedPiece) (p : MovedPiece) (m : ℕ) (before : Legs)
    → legs_put s (p ∷ []) m (legs_put s parts m before) ≡ legs_put s (parts ++ p ∷ []) m before
legs_put-more s parts p m before =
    or_assoc before (legs_at s parts m) (legs_at s (p ∷ []) m)
    ∙ ap (or_legs before) (sym (legs_at-more s parts p m))

pub legs_put-none : (s m : ℕ) (before : Legs) → before ≡ legs_put s [] m before
legs_put-none s m before =
    sym (elim (nat_lt (m + 1) s) as (λ b. or_legs before (if b then [] else []) ≡ before) [
      | true ↦ or_none before
      | false ↦ or_none before
    ])

-- what one part gives
legs_at-one : (s : ℕ) (p : MovedPiece) (m : ℕ)
    → legs_at s (p ∷ []) m ≡ (if came_from (holds p.0) s m then legs_kept s p.1 else [])
legs_at-one s p m = by (nat_lt (m + 1) s) (holds p.0 (m + 1 - s))
  where
    by : (late has : Bool)
        → (if late then [] else first_kept s (if has then p.1 ∷ [] else []))
        ≡ (if (if late then false else has) then legs_kept s p.1 else [])
    by true has = refl
    by false true = or_none (legs_kept s p.1)
    by false false = refl

-- a part that has another shift gives none
pub nothing_put : (s : ℕ) (p : MovedPiece) → is_kept_with s p.1.fate ≡ false
    → (m : ℕ) (before : Legs) → before ≡ legs_put s (p ∷ []) m before
nothing_put s p other m before =
    sym (ap (or_legs before) (legs_at-one s p m ∙ ap (λ (b : Bool).
    if came_from (holds p.0) s m then (if b then p.1.legs else []) else []) other
    ∙ none (came_from (holds p.0) s m)) ∙ or_none before)
  where
    none : (b : Bool) → (if b then nothing else nothing) ≡ nothing
    none true = refl
    none false = refl

-- a part of which no date is in the calendar gives none
pub none_put : (s : ℕ) (p : MovedPiece) (m : ℕ) (before : Legs) → came_from (holds p.0) s m ≡ false
    → before ≡ legs_put s (p ∷ []) m before
none_put s p m before none =
    sym (ap (or_legs before) (legs_at-one s p m
    ∙ ap (λ (b : Bool). if b then legs_kept s p.1 else []) none) ∙ or_none before)

-- a part with this shift gives its legs
pub part_put : (s : ℕ) (p : MovedPiece) (m : ℕ) (before : Legs) (moved : Bool)
    → is_kept_with s p.1.fate ≡ true → moved ≡ came_from (holds p.0) s m
    → (if moved then or_legs before p.1.legs else before) ≡ legs_put s (p ∷ []) m before
part_put s p m before moved kept is =
    by moved
    ∙ ap (or_legs before) (ap (λ (b : Bool). if b then p.1.legs else []) is
    ∙ ap (λ (b : Bool). if came_from (holds p.0) s m then (if b then p.1.legs else []) else [])
    (sym kept) ∙ sym (legs_at-one s p m))
  where
    by : (b : Bool)
        → (if b then or_legs before p.1.legs else before) ≡ or_legs before (if b then p.1.legs else [])
    by true = refl
    by false = sym (or_none before)

-- ---- fates

last_fate-append : (before : Fate) (xs ys : List MovedFlight)
    → last_fate before (xs ++ ys) ≡ last_fate (last_fate before xs) ys
last_fate-append before [] ys = refl
last_fate-append before (x ∷ xs) ys = last_fate-append x.fate xs ys

-- a part gives its dates its fate
pub fate_put : (parts : List MovedPiece) (p : MovedPiece) (n : ℕ)
    → (if holds p.0 n then p.1.fate else last_fate Absent (held_on parts n))
    ≡ last_fate Absent (held_on (parts ++ p ∷ []) n)
fate_put parts p n =
    sym (ap (last_fate Absent) (held_on-more parts p n)
    ∙ last_fate-append Absent (held_on parts n) (held_on (p ∷ []) n)
    ∙ elim (holds p.0 n) as (λ b. last_fate (last_fate Absent (held_on parts n))
    (if b then p.1 ∷ [] else []) ≡ (if b then p.1.fate else last_fate Absent (held_on parts n))) [
      | true ↦ refl
      | false ↦ refl
    ])

-- ---- dates that are left for another one

left_twice : (t : ℕ) (fate : Fate) → left_if_kept t (left_if_kept t fate) ≡ left_if_kept t fate
left_twice t fate = by (is_kept_with t fate) refl
  where
    by : (b : Bool) → is_kept_with t fate ≡ b
        → left_if_kept t (if b then Left Date else fate) ≡ (if b then Left Date else fate)
    by true e = refl
    by false e = ap (λ (b : Bool). if b then Left Date else fate) e

or_false : (b : Bool) → (b || false) ≡ b
or_false true = refl
or_false false = refl

-- the dates that come before from one list of pieces and from one more
came-more : (s by : ℕ) (parts : List MovedPiece) (p : MovedPiece) (n : ℕ)
    → came_from (λ k. is_one_kept s (held_on (parts ++ p ∷ []) k)) by n
    ≡ (came_from (λ k. is_one_kept s (held_on parts k)) by n
    || came_from (λ k. is_one_kept s (held_on (p ∷ []) k)) by n)
came-more s by parts p n =
    elim (nat_lt (n + 1) by) as (λ b.
    (if b then false else is_one_kept s (held_on (parts ++ p ∷ []) (n + 1 - by)))
    ≡ ((if b then false else is_one_kept s (held_on parts (n + 1 - by)))
    || (if b then false else is_one_kept s (held_on (p ∷ []) (n + 1 - by))))) [
      | true ↦ refl
      | false ↦ ap (is_one_kept s) (held_on-more parts p (n + 1 - by))
          ∙ list_any-append (λ (one : MovedFlight). is_kept_with s one.fate)
          (held_on parts (n + 1 - by)) (held_on (p ∷ []) (n + 1 - by))
    ]

pub fate_after-more : (s by later : ℕ) (parts : List MovedPiece) (p : MovedPiece) (n : ℕ)
    (before : Fate)
    → fate_after s by later (p ∷ []) n (fate_after s by later parts n before)
    ≡ fate_after s by later (parts ++ p ∷ []) n before
fate_after-more s by later parts p n before =
    cases (came_from (λ k. is_one_kept s (held_on parts k)) by n)
    (came_from (λ k. is_one_kept s (held_on (p ∷ []) k)) by n)
    ∙ ap (λ (b : Bool). if b then left_if_kept later before else before)
    (sym (came-more s by parts p n))
  where
    cases : (one two : Bool)
        → (let mid = if one then left_if_kept later before else before in
        if two then left_if_kept later mid else mid)
        ≡ (if one || two then left_if_kept later before else before)
    cases true true = left_twice later before
    cases true false = refl
    cases false true = refl
    cases false false = refl

pub fate_after-none : (s by later n : ℕ) (before : Fate) → before ≡ fate_after s by later [] n before
fate_after-none s by later n before =
    sym (elim (nat_lt (n + 1) by) as (λ b. (if (if b then false else false)
    then left_if_kept later before else before) ≡ before) [ true ↦ refl | false ↦ refl ])

-- the dates that come before from one part
came-one : (s by : ℕ) (p : MovedPiece) (n : ℕ)
    → came_from (λ k. is_one_kept s (held_on (p ∷ []) k)) by n
    ≡ (came_from (holds p.0) by n && is_kept_with s p.1.fate)
came-one s by p n = cases (nat_lt (n + 1) by) (holds p.0 (n + 1 - by))
  where
    cases : (late has : Bool)
        → (if late then false else is_one_kept s (if has then p.1 ∷ [] else []))
        ≡ ((if late then false else has) && is_kept_with s p.1.fate)
    cases true has = refl
    cases false true = or_false (is_kept_with s p.1.fate)
    cases false false = refl

and_false : (b : Bool) → (b && false) ≡ false
and_false true = refl
and_false false = refl

and_true : (b : Bool) → (b && true) ≡ b
and_true true = refl
and_true false = refl

pub nothing_left : (s by later : ℕ) (p : MovedPiece) → is_kept_with s p.1.fate ≡ false → (n : ℕ)
    (before : Fate) → before ≡ fate_after s by later (p ∷ []) n before
nothing_left s by later p other n before =
    sym (ap (λ (b : Bool). if b then left_if_kept later before else before)
    (came-one s by p n ∙ ap (λ (b : Bool). came_from (holds p.0) by n && b) other
    ∙ and_false (came_from (holds p.0) by n)))

pub none_left : (s by later : ℕ) (p : MovedPiece) (n : ℕ) (before : Fate)
    → came_from (holds p.0) by n ≡ false → before ≡ fate_after s by later (p ∷ []) n before
none_left s by later p n before none =
    sym (ap (λ (b : Bool). if b then left_if_kept later before else before)
    (came-one s by p n ∙ ap (λ (b : Bool). b && is_kept_with s p.1.fate) none))

pub part_left : (s by later : ℕ) (p : MovedPiece) (n : ℕ) (before : Fate) (moved : Bool)
    → is_kept_with s p.1.fate ≡ true → moved ≡ came_from (holds p.0) by n
    → (if moved then left_if_kept later before else before)
    ≡ fate_after s by later (p ∷ []) n before
part_left s by later p n before moved kept is =
    ap (λ (b : Bool). if b then left_if_kept later before else before)
    (is ∙ sym (and_true (came_from (holds p.0) by n))
    ∙ ap (λ (b : Bool). came_from (holds p.0) by n && b) (sym kept) ∙ sym (came-one s by p n))

-- a date that is not kept with the later shift is not left
pub never_left : (s by later : ℕ) (parts : List MovedPiece) (n : ℕ) (before : Fate)
    → is_kept_with later before ≡ false → before ≡ fate_after s by later parts n before
never_left s by later parts n before other =
    either (came_from (λ k. is_one_kept s (held_on parts k)) by n)
  where
    either : (b : Bool) → before ≡ (if b then left_if_kept later before else before)
    either true = sym (ap (λ (b : Bool). if b then Left Date else before) other)
    either false = refl

-- a date that is kept with a shift was kept with it before others were left
pub kept_before : (t s by later : ℕ) (parts : List MovedPiece) (n : ℕ) (before : Fate)
    → is_kept_with t (fate_after s by later parts n before) ≡ true → is_kept_with t before ≡ true
kept_before t s by later parts n before h =
    cases (came_from (λ k. is_one_kept s (held_on parts k)) by n) (is_kept_with later before) h
  where
    cases : (came kept : Bool)
        → is_kept_with t (if came then (if kept then Left Date else before) else before) ≡ true
        → is_kept_with t before ≡ true
    cases true true k = absurd cc
    cases true false k = k
    cases false kept k = k

or_later : (a b : Bool) → b ≡ true → (a || b) ≡ true
or_later true b h = refl
or_later false b h = h

or_between : (a b d : Bool) → (a || d) ≡ true → (a || (b || d)) ≡ true
or_between true b d h = refl
or_between false true d h = refl
or_between false false d h = h

kept_from : (t n : ℕ) (parts : List MovedPiece) (before : Fate)
    → is_kept_with t (last_fate before (held_on parts n)) ≡ true
    → (is_kept_with t before || has_shift t parts) ≡ true
kept_from t n [] before h = ap (λ (b : Bool). b || false) h
kept_from t n (p ∷ parts) before h =
    by (holds p.0 n) (kept_from t n parts p.1.fate) (kept_from t n parts before) h
  where
    by : (b : Bool)
        → (is_kept_with t (last_fate p.1.fate (held_on parts n)) ≡ true
        → (is_kept_with t p.1.fate || has_shift t parts) ≡ true)
        → (is_kept_with t (last_fate before (held_on parts n)) ≡ true
        → (is_kept_with t before || has_shift t parts) ≡ true)
        → is_kept_with t (last_fate before (if b then p.1 ∷ held_on parts n else held_on parts n))
        ≡ true
        → (is_kept_with t before || (is_kept_with t p.1.fate || has_shift t parts)) ≡ true
    by true own others k =
        or_later (is_kept_with t before) (is_kept_with t p.1.fate || has_shift t parts) (own k)
    by false own others k =
        or_between (is_kept_with t before) (is_kept_with t p.1.fate) (has_shift t parts) (others k)

-- by its own fate a date is kept with a shift only if a part is to be
pub kept_by_parts : (t : ℕ) (parts : List MovedPiece)
    → IsKeptByParts t parts (λ n. last_fate Absent (held_on parts n))
kept_by_parts t parts n h = kept_from t n parts Absent h

-- if no part is to be kept with a shift, no date is
pub none_kept : (t : ℕ) (parts : List MovedPiece) (fates : ℕ → Fate) → IsKeptByParts t parts fates
    → has_shift t parts ≡ false → (n : ℕ) → is_kept_with t (fates n) ≡ false
none_kept t parts fates kept none n = by (is_kept_with t (fates n)) refl
  where
    by : (b : Bool) → is_kept_with t (fates n) ≡ b → is_kept_with t (fates n) ≡ false
    by true e = let some = kept n e in absurd cc
    by false e = e
