-- What each day has after a change of the days of a period: each entry that has such a day is cut
-- into four parts, and on each day at most one of all parts holds.
use Rattle.std.proofs.Common.{◌≡◌, ℕ, zero, suc, ◌+◌, ◌-◌, ◌<◌, ◌≤◌, max, min, ◌&&◌, ◌||◌, Bool, true, false, not, if◌then◌else◌, nat_le, nat_lt, Option, Some, None, is_some, List, [], ◌∷◌, ◌++◌, slice_index_or, refl, ap, sym, ◌∙◌, arith}
use Rattle.std.proofs.Math.Bool.{and-false}
use Rattle.std.proofs.lemmas.Bool.Decides.{nat_tests}
use Rattle.ssim_values.specs.Period.{DayRange}
use Rattle.ssim_periods.specs.Calendar.{holds}
use Rattle.ssim_values.specs.Calendar.{slot}
use Rattle.ssim_periods.specs.CommonDays.{meet}
use Rattle.ssim_periods.specs.Pieces.{held_on}
use Rattle.ssim_periods.specs.internal.Parts.{any_weekday, days_of_both, days_of_one, part, before_part, beside_part, after_part, common_part, first_of, first_part, second_part, third_part, with_value, with_outcome, kept_of, added_of}
use Rattle.ssim_periods.proofs.CommonDayLemmas.{meet-nowhere}
use Rattle.ssim_periods.proofs.PieceLaw.{held_on-append}

-- ---- the days of a part

abbrev pub holds_in : Option DayRange → ℕ → Bool
holds_in None n = false
holds_in (Some p) n = holds p n

or-none : (a b : Bool) → (a || b) ≡ false → (a ≡ false) × (b ≡ false)
or-none true b h = absurd cc
or-none false b h = (refl, h)

unset : (days : List Bool) (w : ℕ) → any_weekday days ≡ false → w < 7 → slice_index_or days w false ≡ false
unset days w h = by w
  where
    on : ℕ → Bool
    on k = slice_index_or days k false

    six : ((((((on 0 || on 1) || on 2) || on 3) || on 4) || on 5) ≡ false) × (on 6 ≡ false)
    six = or-none (((((on 0 || on 1) || on 2) || on 3) || on 4) || on 5) (on 6) h

    five : (((((on 0 || on 1) || on 2) || on 3) || on 4) ≡ false) × (on 5 ≡ false)
    five = or-none ((((on 0 || on 1) || on 2) || on 3) || on 4) (on 5) six.0

    four : ((((on 0 || on 1) || on 2) || on 3) ≡ false) × (on 4 ≡ false)
    four = or-none (((on 0 || on 1) || on 2) || on 3) (on 4) five.0

    three : (((on 0 || on 1) || on 2) ≡ false) × (on 3 ≡ false)
    three = or-none ((on 0 || on 1) || on 2) (on 3) four.0

    two : ((on 0 || on 1) ≡ false) × (on 2 ≡ false)
    two = or-none (on 0 || on 1) (on 2) three.0

    one : (on 0 ≡ false) × (on 1 ≡ false)
    one = or-none (on 0) (on 1) two.0

    by : (w : ℕ) → w < 7 → slice_index_or days w false ≡ false
    by zero l = one.0
    by (suc zero) l = one.1
    by (suc (suc zero)) l = two.1
    by (suc (suc (suc zero))) l = three.1
    by (suc (suc (suc (suc zero)))) l = four.1
    by (suc (suc (suc (suc (suc zero))))) l = five.1
    by (suc (suc (suc (suc (suc (suc zero)))))) l = six.1
    by (suc (suc (suc (suc (suc (suc (suc w))))))) l = absurd (omega arith)

pub part-holds : (first end : ℕ) (days : List Bool) (n : ℕ) → holds_in (part first end days) n ≡ ((nat_le first n && nat_lt n end) && slice_index_or days (slot n) false)
part-holds first end days n = by (nat_lt first end) (any_weekday days) refl refl
  where
    own : DayRange
    own = record { first = first; last = end - 1; days = days }

    by : (b c : Bool) → nat_lt first end ≡ b → any_weekday days ≡ c → holds_in (if b && c then Some own else None) n ≡ ((nat_le first n && nat_lt n end) && slice_index_or days (slot n) false)
    by true true e f = let same : nat_le n (end - 1) ≡ nat_lt n end = grind (arith, nat_tests) in ap (λ b. (nat_le first n && b) && slice_index_or days (slot n) false) same
    by true false e f = sym (ap (λ b. (nat_le first n && nat_lt n end) && b) (unset days (slot n) f (omega arith)) ∙ and-false (nat_le first n && nat_lt n end))
    by false c e f = sym (ap (λ b. b && slice_index_or days (slot n) false) (outside (nat_le first n) (nat_lt n end) refl refl e))
      where
        outside : (x y : Bool) → nat_le first n ≡ x → nat_lt n end ≡ y → nat_lt first end ≡ false → (x && y) ≡ false
        outside false y f g h = refl
        outside true false f g h = refl
        outside true true f g h = let low : first ≤ n = grind (arith, nat_tests) in let high : n < end = grind (arith, nat_tests) in let bad : nat_lt first end ≡ true = grind (arith, nat_tests) in sym bad ∙ h

both-at : (days others : List Bool) (w : ℕ) → w < 7 → slice_index_or (days_of_both days others) w false ≡ (slice_index_or days w false && slice_index_or others w false)
both-at days others zero l = refl
both-at days others (suc zero) l = refl
both-at days others (suc (suc zero)) l = refl
both-at days others (suc (suc (suc zero))) l = refl
both-at days others (suc (suc (suc (suc zero)))) l = refl
both-at days others (suc (suc (suc (suc (suc zero))))) l = refl
both-at days others (suc (suc (suc (suc (suc (suc zero)))))) l = refl
both-at days others (suc (suc (suc (suc (suc (suc (suc w))))))) l = absurd (omega arith)

one-at : (days others : List Bool) (w : ℕ) → w < 7 → slice_index_or (days_of_one days others) w false ≡ (slice_index_or days w false && not (slice_index_or others w false))
one-at days others zero l = refl
one-at days others (suc zero) l = refl
one-at days others (suc (suc zero)) l = refl
one-at days others (suc (suc (suc zero))) l = refl
one-at days others (suc (suc (suc (suc zero)))) l = refl
one-at days others (suc (suc (suc (suc (suc zero))))) l = refl
one-at days others (suc (suc (suc (suc (suc (suc zero)))))) l = refl
one-at days others (suc (suc (suc (suc (suc (suc (suc w))))))) l = absurd (omega arith)

-- a day in two ranges, by its bounds
least-two : (a b n : ℕ) → nat_le (max a b) n ≡ (nat_le a n && nat_le b n)
least-two a b n = by (nat_le a n) (nat_le b n) refl refl
  where
    by : (x y : Bool) → nat_le a n ≡ x → nat_le b n ≡ y → nat_le (max a b) n ≡ (x && y)
    by true true e f = grind (arith, nat_tests)
    by true false e f = grind (arith, nat_tests)
    by false y e f = grind (arith, nat_tests)

most-two : (a b n : ℕ) → nat_lt n (min a b + 1) ≡ (nat_le n a && nat_le n b)
most-two a b n = by (nat_le n a) (nat_le n b) refl refl
  where
    by : (x y : Bool) → nat_le n a ≡ x → nat_le n b ≡ y → nat_lt n (min a b + 1) ≡ (x && y)
    by true true e f = grind (arith, nat_tests)
    by true false e f = grind (arith, nat_tests)
    by false y e f = grind (arith, nat_tests)

before-two : (a b n : ℕ) → nat_lt n (min (a + 1) b) ≡ (nat_le n a && not (nat_le b n))
before-two a b n = by (nat_le n a) (nat_le b n) refl refl
  where
    by : (x y : Bool) → nat_le n a ≡ x → nat_le b n ≡ y → nat_lt n (min (a + 1) b) ≡ (x && not y)
    by true true e f = grind (arith, nat_tests)
    by true false e f = grind (arith, nat_tests)
    by false y e f = grind (arith, nat_tests)

after-two : (a b n : ℕ) → nat_le (max a (b + 1)) n ≡ (nat_le a n && not (nat_le n b))
after-two a b n = by (nat_le a n) (nat_le n b) refl refl
  where
    by : (x y : Bool) → nat_le a n ≡ x → nat_le n b ≡ y → nat_le (max a (b + 1)) n ≡ (x && not y)
    by true true e f = grind (arith, nat_tests)
    by true false e f = grind (arith, nat_tests)
    by false y e f = grind (arith, nat_tests)

up-to : (a n : ℕ) → nat_lt n (a + 1) ≡ nat_le n a
up-to a n = grind (arith, nat_tests)

abbrev on : DayRange → ℕ → Bool
on p n = slice_index_or p.days (slot n) false

before-on : (p q : DayRange) (n : ℕ) → holds_in (before_part p q) n ≡ ((nat_le p.first n && (nat_le n p.last && not (nat_le q.first n))) && on p n)
before-on p q n = part-holds p.first (min (p.last + 1) q.first) p.days n ∙ ap (λ t. (nat_le p.first n && t) && on p n) (before-two p.last q.first n)

beside-on : (p q : DayRange) (n : ℕ) → holds_in (beside_part p q) n ≡ (((nat_le p.first n && nat_le q.first n) && (nat_le n p.last && nat_le n q.last)) && (on p n && not (on q n)))
beside-on p q n =
    part-holds (max p.first q.first) (min p.last q.last + 1) (days_of_one p.days q.days) n
    ∙ ap (λ t. (t && nat_lt n (min p.last q.last + 1)) && slice_index_or (days_of_one p.days q.days) (slot n) false) (least-two p.first q.first n)
    ∙ ap (λ t. ((nat_le p.first n && nat_le q.first n) && t) && slice_index_or (days_of_one p.days q.days) (slot n) false) (most-two p.last q.last n)
    ∙ ap (λ t. ((nat_le p.first n && nat_le q.first n) && (nat_le n p.last && nat_le n q.last)) && t) (one-at p.days q.days (slot n) (omega arith))

after-on : (p q : DayRange) (n : ℕ) → holds_in (after_part p q) n ≡ (((nat_le p.first n && not (nat_le n q.last)) && nat_le n p.last) && on p n)
after-on p q n =
    part-holds (max p.first (q.last + 1)) (p.last + 1) p.days n
    ∙ ap (λ t. (t && nat_lt n (p.last + 1)) && on p n) (after-two p.first q.last n)
    ∙ ap (λ t. ((nat_le p.first n && not (nat_le n q.last)) && t) && on p n) (up-to p.last n)

pub common-on : (p q : DayRange) (n : ℕ) → holds_in (common_part p q) n ≡ (((nat_le p.first n && nat_le q.first n) && (nat_le n p.last && nat_le n q.last)) && (on p n && on q n))
common-on p q n =
    part-holds (max p.first q.first) (min p.last q.last + 1) (days_of_both p.days q.days) n
    ∙ ap (λ t. (t && nat_lt n (min p.last q.last + 1)) && slice_index_or (days_of_both p.days q.days) (slot n) false) (least-two p.first q.first n)
    ∙ ap (λ t. ((nat_le p.first n && nat_le q.first n) && t) && slice_index_or (days_of_both p.days q.days) (slot n) false) (most-two p.last q.last n)
    ∙ ap (λ t. ((nat_le p.first n && nat_le q.first n) && (nat_le n p.last && nat_le n q.last)) && t) (both-at p.days q.days (slot n) (omega arith))

-- ---- one entry on one day

abbrev pub one : {V : Type 0} → Bool → V → List V
one b v = if b then v ∷ [] else []

abbrev pub new : {V : Type 0} → (V → V → Bool) → V → (V → V) → V → Bool → List V
new alike nothing f v b = if alike (f v) nothing then [] else one b (f v)

-- a b c d x y: the day is not before the period, not after it, not before the other, not after the
-- other, on a weekday of the period, on one of the other
day : {V : Type 0} (v : V) (rest : Bool → List V) (a b c d x y : Bool) → (c ≡ false → d ≡ true) → rest false ≡ [] →
    one ((a && (b && not c)) && x) v ++ (one (((a && c) && (b && d)) && (x && not y)) v ++ (one (((a && not d) && b) && x) v ++ rest (((a && c) && (b && d)) && (x && y))))
    ≡ (if (c && d) && y then rest ((a && b) && x) else one ((a && b) && x) v)
day v rest a b false false x y h r = absurd (let bad : false ≡ true = h refl in cc)
day v rest false b false true x y h r = r
day v rest true false false true x y h r = r
day v rest true true false true false y h r = r
day v rest true true false true true y h r = ap (λ vs. v ∷ vs) r
day v rest false b true false x y h r = r
day v rest true false true false x y h r = r
day v rest true true true false false y h r = r
day v rest true true true false true y h r = ap (λ vs. v ∷ vs) r
day v rest false b true true x false h r = r
day v rest true false true true x false h r = r
day v rest true true true true false false h r = r
day v rest true true true true true false h r = ap (λ vs. v ∷ vs) r
day v rest false b true true x true h r = refl
day v rest true false true true x true h r = refl
day v rest true true true true false true h r = refl
day v rest true true true true true true h r = refl

-- the three parts in their order
parts-same : {X : Type 0} (b s a : Option DayRange) (v : X) (rest : List (DayRange × X)) → with_value (first_of b (first_of s a)) v ++ ((with_value (if is_some b then s else None) v ++ with_value (if is_some b || is_some s then a else None) v) ++ rest) ≡ with_value b v ++ (with_value s v ++ (with_value a v ++ rest))
parts-same None None None v rest = refl
parts-same None None (Some a) v rest = refl
parts-same None (Some s) a v rest = refl
parts-same (Some b) None a v rest = refl
parts-same (Some b) (Some s) a v rest = refl

held-value : {V : Type 0} (o : Option DayRange) (v : V) (n : ℕ) → held_on (with_value o v) n ≡ one (holds_in o n) v
held-value None v n = refl
held-value (Some p) v n = refl

held-outcome : {V : Type 0} (alike : V → V → Bool) (nothing : V) (f : V → V) (o : Option DayRange) (v : V) (n : ℕ) → held_on (with_outcome alike nothing o (f v)) n ≡ new alike nothing f v (holds_in o n)
held-outcome {V} alike nothing f o v n = by (alike (f v) nothing)
  where
    by : (t : Bool) → held_on (if t then [] else with_value o (f v)) n ≡ (if t then [] else one (holds_in o n) (f v))
    by true = refl
    by false = held-value o (f v) n

new-none : {V : Type 0} (alike : V → V → Bool) (nothing : V) (f : V → V) (v : V) → new alike nothing f v false ≡ []
new-none alike nothing f v = by (alike (f v) nothing)
  where
    by : (t : Bool) → (if t then [] else one false (f v)) ≡ []
    by true = refl
    by false = refl

not-both : (first last n : ℕ) → first ≤ last → nat_le first n ≡ false → nat_le n last ≡ true
not-both first last n o e = grind (arith, nat_tests)

-- an entry that meets the period
split : {V : Type 0} (alike : V → V → Bool) (nothing : V) (f : V → V) (q : DayRange) (e : DayRange × V) (n : ℕ) → q.first ≤ q.last →
    held_on (with_value (first_part e.0 q) e.1 ++ ((with_value (second_part e.0 q) e.1 ++ with_value (third_part e.0 q) e.1) ++ with_outcome alike nothing (common_part e.0 q) (f e.1))) n
    ≡ (if holds q n then new alike nothing f e.1 (holds e.0 n) else one (holds e.0 n) e.1)
split {V} alike nothing f q e n o =
    let p = e.0 in let v = e.1 in
    let b = before_part p q in let s = beside_part p q in let a = after_part p q in let w = with_outcome alike nothing (common_part p q) (f v) in
    ap (λ es. held_on es n) (parts-same b s a v w)
    ∙ held_on-append (with_value b v) (with_value s v ++ (with_value a v ++ w)) n
    ∙ ap (λ vs. held_on (with_value b v) n ++ vs) (held_on-append (with_value s v) (with_value a v ++ w) n ∙ ap (λ vs. held_on (with_value s v) n ++ vs) (held_on-append (with_value a v) w n))
    ∙ ap (λ vs. vs ++ (held_on (with_value s v) n ++ (held_on (with_value a v) n ++ held_on w n))) (held-value b v n ∙ ap (λ t. one t v) (before-on p q n))
    ∙ ap (λ vs. at_before ++ (vs ++ (held_on (with_value a v) n ++ held_on w n))) (held-value s v n ∙ ap (λ t. one t v) (beside-on p q n))
    ∙ ap (λ vs. at_before ++ (at_beside ++ (vs ++ held_on w n))) (held-value a v n ∙ ap (λ t. one t v) (after-on p q n))
    ∙ ap (λ vs. at_before ++ (at_beside ++ (at_after ++ vs))) (held-outcome alike nothing f (common_part p q) v n ∙ ap (new alike nothing f v) (common-on p q n))
    ∙ day v (new alike nothing f v) (nat_le p.first n) (nat_le n p.last) (nat_le q.first n) (nat_le n q.last) (on p n) (on q n) (not-both q.first q.last n o) (new-none alike nothing f v)
  where
    at_before : List V
    at_before = one ((nat_le e.0.first n && (nat_le n e.0.last && not (nat_le q.first n))) && on e.0 n) e.1

    at_beside : List V
    at_beside = one (((nat_le e.0.first n && nat_le q.first n) && (nat_le n e.0.last && nat_le n q.last)) && (on e.0 n && not (on q n))) e.1

    at_after : List V
    at_after = one (((nat_le e.0.first n && not (nat_le n q.last)) && nat_le n e.0.last) && on e.0 n) e.1

pub entry-day : {V : Type 0} (alike : V → V → Bool) (nothing : V) (f : V → V) (q : DayRange) (e : DayRange × V) (n : ℕ) → q.first ≤ q.last → q.last < 36525 →
    held_on (kept_of q e) n ++ held_on (added_of alike nothing f q e) n ≡ (if holds q n then new alike nothing f e.1 (holds e.0 n) else one (holds e.0 n) e.1)
entry-day {V} alike nothing f q e n o fits = by (meet q e.0) refl
  where
    parts : List (DayRange × V)
    parts = with_value (second_part e.0 q) e.1 ++ with_value (third_part e.0 q) e.1 ++ with_outcome alike nothing (common_part e.0 q) (f e.1)

    apart : (x y : Bool) → (x ≡ true → y ≡ false) → one y e.1 ++ [] ≡ (if x then new alike nothing f e.1 y else one y e.1)
    apart false false h = refl
    apart false true h = refl
    apart true false h = sym (new-none alike nothing f e.1)
    apart true true h = absurd (let bad : true ≡ false = h refl in cc)

    by : (m : Bool) → meet q e.0 ≡ m → held_on (if m then with_value (first_part e.0 q) e.1 else e ∷ []) n ++ held_on (if m then parts else []) n ≡ (if holds q n then new alike nothing f e.1 (holds e.0 n) else one (holds e.0 n) e.1)
    by true m = sym (held_on-append (with_value (first_part e.0 q) e.1) parts n) ∙ split alike nothing f q e n o
    by false m = apart (holds q n) (holds e.0 n) (meet-nowhere q e.0 fits m n)
