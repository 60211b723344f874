-- The cover of one period's days is one period: up to the last day no day breaks the weekdays, and
-- no day is held after it.
use Rattle.std.proofs.Common.{◌≡◌, ℕ, ◌+◌, ◌-◌, ◌<◌, ◌≤◌, ◌&&◌, Bool, true, false, nat_le, nat_lt, List, [], ◌∷◌, length, slice_index_or, refl, ap, sym, ◌∙◌, arith, inl, inr}
use Rattle.std.proofs.Math.Bool.{and-false}
use Rattle.std.proofs.lemmas.Bool.Decides.{nat_tests}
use Rattle.ssim_values.specs.DayMask.{IsMask}
use Rattle.ssim_values.specs.Period.{DayRange}
use Rattle.ssim_periods.specs.internal.Apart.{weekdays_within}
use Rattle.ssim_periods.specs.Calendar.{day_count, holds}
use Rattle.ssim_values.specs.Calendar.{first_on, slot}
use Rattle.ssim_periods.specs.Cover.{first_where, last_where, weekdays_of, breaks, break_after, period_at, cover}
use Rattle.ssim_periods.proofs.ApartLemmas.{holds-same}
use Rattle.ssim_periods.proofs.BitLemmas.{seven-are}
use Rattle.ssim_periods.proofs.CoverLemmas.{le_or_lt, first_where-none, first_where-is, first_where-either, last_where-is, last_where-at, weekdays_of-at, weekdays_of-own, differ-same, break_after-is}
use Rattle.ssim_periods.proofs.CoverSteps.{cover_at, cover_from-at, cover_at-next, cover_at-end, some-digit}
use Rattle.ssim_periods.proofs.DayLemmas.{day_count-is}

range : ℕ → ℕ → List Bool → DayRange
range first last days = record { first = first; last = last; days = days }

pub cover-none : (is_in : ℕ → Bool) (end : ℕ) → ((n : ℕ) → is_in n ≡ false) → cover is_in end ≡ []
cover-none is_in end none =
    let at = first_where-none is_in 0 (end - 0) (λ m l h. none m) in
    cover_from-at end is_in 0 end (omega arith) ∙ cover_at-end is_in end (first_where is_in 0 (end - 0)) (omega arith)

-- days that break no weekday up to the last of them
cover-one : (is_in : ℕ → Bool) (limit first end last : ℕ) → first < end → end ≤ limit → is_in first ≡ true → ((n : ℕ) → n < first → is_in n ≡ false) → ((n : ℕ) → first ≤ n → n < end → is_in n ≡ slice_index_or (weekdays_of is_in first) (slot n) false) → ((n : ℕ) → end ≤ n → is_in n ≡ false) → first ≤ last → last < end → is_in last ≡ true → ((n : ℕ) → last < n → n < end → is_in n ≡ false) → cover is_in limit ≡ range first last (weekdays_of is_in first) ∷ []
unfolding range
cover-one is_in limit first end last lt le here early like late low high own after =
    let mask = weekdays_of is_in first in
    let b = break_after is_in first limit in
    let within : b ≤ limit = (break_after-is is_in first limit (omega arith)).1 in
    let far : end ≤ b = elim (first_where-either (breaks is_in mask) first (limit - first)) [
      | inl none ↦ let at = none.0 in omega arith
      | inr some ↦ elim (le_or_lt end b) [
        | inl l ↦ l
        | inr h ↦ let quiet : breaks is_in mask b ≡ false = differ-same (is_in b) (slice_index_or mask (slot b) false) (like b some.0 h) in let bad : true ≡ false = sym some.2 ∙ quiet in absurd cc
      ]
    ] in
    let start : first_where is_in 0 (limit - 0) ≡ first = first_where-is is_in 0 (limit - 0) first (omega arith) (omega arith) here (λ m a h. early m h) in
    let rest : first_where is_in b (limit - b) ≡ b + (limit - b) = first_where-none is_in b (limit - b) (λ m a h. late m (omega arith)) in
    let last_is : last_where is_in first (b - first) ≡ last = last_where-at is_in first (b - first) last low (omega arith) own (λ m a h. elim (le_or_lt end m) [ inl x ↦ late m x | inr y ↦ after m a y ]) in
    cover_from-at limit is_in 0 limit (omega arith) ∙ ap (cover_at is_in limit) start ∙ cover_at-next is_in limit first (omega arith)
    ∙ ap (λ a. period_at is_in first b ∷ cover_at is_in limit a) rest
    ∙ ap (λ ps. period_at is_in first b ∷ ps) (cover_at-end is_in limit (b + (limit - b)) (omega arith))
    ∙ ap (λ l. range first l mask ∷ []) last_is

-- ---- the days of a period

before : (p : DayRange) (n : ℕ) → n < p.first → holds p n ≡ false
before p n h = let off : nat_le p.first n ≡ false = grind (arith, nat_tests) in ap (λ b. (b && nat_le n p.last) && slice_index_or p.days (slot n) false) off

behind : (p : DayRange) (n : ℕ) → p.last < n → holds p n ≡ false
behind p n h =
    let off : nat_le n p.last ≡ false = grind (arith, nat_tests) in
    ap (λ b. (nat_le p.first n && b) && slice_index_or p.days (slot n) false) off ∙ ap (λ b. b && slice_index_or p.days (slot n) false) (and-false (nat_le p.first n))

between : (p : DayRange) (mask : List Bool) (n : ℕ) → mask ≡ p.days → p.first ≤ n → n ≤ p.last → holds p n ≡ slice_index_or mask (slot n) false
between p mask n is from to =
    let a : nat_le p.first n ≡ true = grind (arith, nat_tests) in
    let b : nat_le n p.last ≡ true = grind (arith, nat_tests) in
    ap (λ x. (x && nat_le n p.last) && slice_index_or p.days (slot n) false) a ∙ ap (λ x. x && slice_index_or p.days (slot n) false) b
    ∙ ap (λ ds. slice_index_or ds (slot n) false) (sym is)

-- weekdays and bounds that are those of a period
pub record AreOwn (p : DayRange) (mask : List Bool) (from end : ℕ) : Type 0 where
  pub days : mask ≡ p.days
  pub starts : from ≡ p.first
  pub ends : end ≡ p.last + 1
  pub ordered : p.first ≤ p.last

pub trim-none : (p : DayRange) (mask : List Bool) (from end first : ℕ) → AreOwn p mask from end
    → first ≡ first_where (λ n. slice_index_or mask (slot n) false) from (end - from) → first ≡ end
    → cover (holds p) day_count ≡ []
trim-none p mask from end first own found all =
    let test = λ (n : ℕ). slice_index_or mask (slot n) false in
    let is = own.days in
    cover-none (holds p) day_count (λ n. elim (le_or_lt p.first n) [
      | inr early ↦ before p n early
      | inl low ↦ elim (le_or_lt (p.last + 1) n) [
        | inl late ↦ behind p n (omega arith)
        | inr high ↦ between p mask n is low (omega arith) ∙ elim (first_where-either test from (end - from)) [
          | inl none ↦ none.1 n (omega arith) (omega arith)
          | inr some ↦ let lt = some.1 in absurd (omega arith)
        ]
      ]
    ])

-- the first and the last day that a period holds
pub record Trim (p : DayRange) (first last : ℕ) (days : List Bool) : Type 0 where
  pub low : p.first ≤ first
  pub ordered : first ≤ last
  pub high : last ≤ p.last
  pub mask : IsMask days
  pub cover_is : (q : DayRange) → q.first ≡ first → q.last ≡ last → q.days ≡ days → cover (holds p) day_count ≡ q ∷ []

pub record First (p : DayRange) (mask : List Bool) (first end : ℕ) : Type 0 where
  pub low : p.first ≤ first
  pub lt : first < end
  pub on : slice_index_or mask (slot first) false ≡ true
  pub early : (n : ℕ) → n < first → holds p n ≡ false

pub first-of : (p : DayRange) (mask : List Bool) (from end first : ℕ) → AreOwn p mask from end
    → first ≡ first_where (λ n. slice_index_or mask (slot n) false) from (end - from)
    → (first ≡ end → ⊥) → First p mask first end
first-of p mask from end first own found some_day =
    let test = λ (n : ℕ). slice_index_or mask (slot n) false in
    let is = own.days in
    elim (first_where-either test from (end - from)) [
      | inl none ↦ let at = none.0 in absurd (some_day (omega arith))
      | inr some ↦
          let low = some.0 in let high = some.1 in
          record {
            low = omega arith;
            lt = omega arith;
            on = ap test found ∙ some.2;
            early = λ n h. elim (le_or_lt p.first n) [
              | inr earlier ↦ before p n earlier
              | inl later ↦ between p mask n is later (omega arith) ∙ some.3 n (omega arith) (omega arith)
            ];
          }
    ]

weekday-at : (p : DayRange) (mask : List Bool) (first end w : ℕ) → mask ≡ p.days → end ≡ p.last + 1 → p.first ≤ first → w < 7 → (nat_lt (first_on w first) end && slice_index_or mask w false) ≡ holds p (first_on w first)
weekday-at p mask first end w is e low lt =
    let n = first_on w first in
    let own : w ≡ slot n = omega arith in
    elim (le_or_lt end n) [
      | inl late ↦ let off : nat_lt n end ≡ false = grind (arith, nat_tests) in ap (λ b. b && slice_index_or mask w false) off ∙ sym (behind p n (omega arith))
      | inr early ↦
          let on : nat_lt n end ≡ true = grind (arith, nat_tests) in
          ap (λ b. b && slice_index_or mask w false) on ∙ ap (λ s. slice_index_or mask s false) own ∙ sym (between p mask n is (omega arith) (omega arith))
    ]

weekdays-are : (p : DayRange) (mask : List Bool) (first end : ℕ) → mask ≡ p.days → end ≡ p.last + 1 → p.first ≤ first → weekdays_within mask first end ≡ weekdays_of (holds p) first
weekdays-are p mask first end is e low =
    let at = λ (w : ℕ) (h : w < 7). weekday-at p mask first end w is e low h in
    let a = at 0 (omega arith) in let b = at 1 (omega arith) in let c = at 2 (omega arith) in let d = at 3 (omega arith) in let f = at 4 (omega arith) in let g = at 5 (omega arith) in let h = at 6 (omega arith) in
    cc

pub trim-some : (p : DayRange) (mask : List Bool) (from end first last : ℕ) (days : List Bool)
    → AreOwn p mask from end → p.last < 36525 → First p mask first end
    → last ≡ last_where (λ n. slice_index_or mask (slot n) false) first (end - first)
    → days ≡ weekdays_within mask first end → Trim p first last days
unfolding range
trim-some p mask from end first last days o fits a last_is days_are =
    let is = o.days in let e = o.ends in
    let test = λ (n : ℕ). slice_index_or mask (slot n) false in
    let is_in = holds p in
    let low = a.low in let lt = a.lt in
    let here : is_in first ≡ true = between p mask first is low (omega arith) ∙ a.on in
    let all : days ≡ weekdays_of is_in first = days_are ∙ weekdays-are p mask first end is e low in
    let l = last_where-is test first (end - first) a.on in
    let l0 = l.0 in let l1 = l.1 in
    let own : slice_index_or days (slot first) false ≡ true = ap (λ m. slice_index_or m (slot first) false) all ∙ weekdays_of-own is_in first ∙ here in
    let one : cover is_in day_count ≡ range first last (weekdays_of is_in first) ∷ [] = cover-one is_in day_count first end last lt (rw day_count-is (omega arith)) here a.early
    (λ n from to.
    let m = first_on (slot n) first in
    let le : m ≤ n = omega arith in let same : slot m ≡ slot n = omega arith in
    sym (weekdays_of-at is_in first (slot n) (omega arith) ∙ holds-same p m n le same (λ h. absurd (omega arith)) (λ h. omega arith)))
    (λ n h. behind p n (omega arith)) (omega arith) (omega arith)
    (between p mask last is (omega arith) (omega arith) ∙ ap test last_is ∙ l.2)
    (λ n h k. between p mask n is (omega arith) (omega arith) ∙ l.3 n (omega arith) (omega arith)) in
    record {
      low = low;
      ordered = omega arith;
      high = omega arith;
      mask = record { seven = ap length days_are; some = some-digit days (slot first) 49 own };
      cover_is = λ q qf ql qd. one ∙ ap (λ ds. range first last ds ∷ []) (sym all) ∙ ap (λ x. range x last days ∷ []) (sym qf) ∙ ap (λ x. range q.first x days ∷ []) (sym ql) ∙ ap (λ x. range q.first q.last x ∷ []) (sym qd);
    }

-- a period of a week or more that holds its first and its last day

within-week : (days : List Bool) (first end w : ℕ) → w < 7 → first + 7 ≤ end → (nat_lt (first_on w first) end && slice_index_or days w false) ≡ slice_index_or days w false
within-week days first end w lt week = let on : nat_lt (first_on w first) end ≡ true = grind (arith, nat_tests) in ap (λ b. b && slice_index_or days w false) on

weekdays_within-whole : (days : List Bool) (first end : ℕ) → length days ≡ 7 → first + 7 ≤ end → days ≡ weekdays_within days first end
weekdays_within-whole days first end seven week =
    let at = λ (w : ℕ) (h : w < 7). within-week days first end w h week in
    let all = seven-are days seven in
    let a = at 0 (omega arith) in let b = at 1 (omega arith) in let c = at 2 (omega arith) in let d = at 3 (omega arith) in let f = at 4 (omega arith) in let g = at 5 (omega arith) in let h = at 6 (omega arith) in
    cc

pub trim-whole : (p : DayRange) → p.first + 6 ≤ p.last → p.last < 36525 → length p.days ≡ 7 → slice_index_or p.days (slot p.first) false ≡ true → slice_index_or p.days (slot p.last) false ≡ true → cover (holds p) day_count ≡ p ∷ []
trim-whole p week fits seven first last =
    let test = λ (n : ℕ). slice_index_or p.days (slot n) false in
    let k = p.last + 1 - p.first in
    let a : First p p.days p.first (p.last + 1) = record { low = omega arith; lt = omega arith; on = first; early = before p } in
    let l : p.last ≡ last_where test p.first k = sym (last_where-at test p.first k p.last (omega arith) (omega arith) last (λ m x y. absurd (omega arith))) in
    let own : AreOwn p p.days p.first (p.last + 1) =
    record { days = refl; starts = refl; ends = refl; ordered = omega arith } in
    (trim-some p p.days p.first (p.last + 1) p.first p.last p.days own fits a l
    (weekdays_within-whole p.days p.first (p.last + 1) seven (omega arith))).cover_is p refl refl refl
