-- The dates of a station that are marked, and the first and the last of them.
use Rattle.std.proofs.Common.{◌≡◌, ◌≢◌, ◌∙◌, ℕ, zero, suc, ◌+◌, ◌≤◌, ◌<◌, Bool, true, false, ◌&&◌}
use Rattle.std.proofs.Common.{◌||◌, cond}
use Rattle.std.proofs.Common.{if◌then◌else◌, nat_eq, nat_lt, List, [], ◌∷◌, length, Option, None}
use Rattle.std.proofs.Common.{Some, get_or, set}
use Rattle.std.proofs.Common.{get_or-set_same, get_or-set_other, refl, sym, ap, ap₂, arith, subst}
use Rattle.std.proofs.Common.{inl, inr}
use Rattle.std.specs.List.{count_by, list_any, range_with_len}
use Rattle.std.proofs.lemmas.Bool.Decides.{nat_tests}
use Rattle.std.proofs.lemmas.List.{length-set}
use Rattle.std.proofs.lemmas.List.Sums.{sum_by-cons}
use Rattle.ssim_periods.specs.Calendar.{day_count}
use Rattle.ssim_periods.specs.Cover.{first_where, last_where}
use Rattle.ssim_periods.proofs.CoverLemmas.{le_or_lt}
use Rattle.ssim_periods.proofs.DayLemmas.{day_count-is}
use Rattle.ssim_overview.specs.Totals.{calendar, ends_of}
use Rattle.ssim_overview.specs.internal.StationNotes.{AddsDates, extended}
use Rattle.ssim_overview.proofs.FlownDates.{any_same, over_same}
use Rattle.ssim_overview.proofs.FlownEnds.{Spans, spans_found}
use Rattle.ssim_overview.proofs.Tests.{or_false}

-- ---- the first and the last

-- the first and the last day before an end that pass a test, if one does
abbrev pub SpansTo : ℕ → (ℕ → Bool) → Option (ℕ × ℕ) → Type 0
SpansTo end test None = (n : ℕ) → n < end → test n ≡ false
SpansTo end test (Some e) =
    (test e.0 ≡ true) × (test e.1 ≡ true) × (e.1 < end)
    × ((n : ℕ) → n < end → test n ≡ true → (e.0 ≤ n) × (n ≤ e.1))

-- before day 0 there is none
pub spans_none : (test : ℕ → Bool) → SpansTo 0 test None
spans_none test n lt = absurd (omega arith)

both : (b : Bool) → b ≡ true → b ≡ false → ⊥
both true t f = cc
both false t f = cc

-- one day more
pub spans_more : (test : ℕ → Bool) (day : ℕ) (days : Option (ℕ × ℕ)) (mark : Bool) → test day ≡ mark
    → SpansTo day test days → SpansTo (day + 1) test (extended days mark day)
spans_more test day None false off s = λ n lt. elim (le_or_lt day n) [
  | inl from ↦ let is : n ≡ day = omega arith in ap test is ∙ off
  | inr before ↦ s n before
]
spans_more test day (Some e) false off (first, last, within, all) = (
  first,
  last,
  omega arith,
  λ n lt t. elim (le_or_lt day n) [
    | inl from ↦
        let is : n ≡ day = omega arith in
        absurd (both (test day) (sym (ap test is) ∙ t) off)
    | inr before ↦ all n before t
  ],
)
spans_more test day None true on s = (
  on,
  on,
  omega arith,
  λ n lt t. elim (le_or_lt day n) [
    | inl from ↦ let is : n ≡ day = omega arith in (omega arith, omega arith)
    | inr before ↦ absurd (both (test n) t (s n before))
  ],
)
spans_more test day (Some e) true on (first, last, within, all) = (
  first,
  on,
  omega arith,
  λ n lt t. elim (le_or_lt day n) [
    | inl from ↦ let low = (all e.1 within last).0 in (omega arith, omega arith)
    | inr before ↦ let low = (all n before t).0 in (omega arith, omega arith)
  ],
)

to_spans : (test : ℕ → Bool) (days : Option (ℕ × ℕ)) → SpansTo 36525 test days → Spans test days
to_spans test None s = s
to_spans test (Some e) s = s

-- after all days
pub spans_all : (test : ℕ → Bool) (day : ℕ) (days : Option (ℕ × ℕ)) → day ≡ 36525
    → SpansTo day test days
    → days ≡ ends_of test (list_any test calendar)
spans_all test day days is s =
    spans_found test days (to_spans test days (subst (λ (n : ℕ). SpansTo n test days) is s))

-- ---- tests that agree on the days of the calendar

first_same : (test other : ℕ → Bool) (a k : ℕ) → ((n : ℕ) → n < a + k → test n ≡ other n)
    → first_where test a k ≡ first_where other a k
first_same test other a zero h = refl
first_same test other a (suc k) h =
    ap₂ (λ (b : Bool) (n : ℕ). if b then a else n) (h a (omega arith))
    (first_same test other (a + 1) k (λ n l. h n (omega arith)))

last_same : (test other : ℕ → Bool) (a k : ℕ) → ((n : ℕ) → n < a + k → test n ≡ other n)
    → last_where test a k ≡ last_where other a k
last_same test other a zero h = refl
last_same test other a (suc k) h =
    ap₂ (λ (b : Bool) (n : ℕ). if b then a + k else n) (h (a + k) (omega arith))
    (last_same test other a k (λ n l. h n (omega arith)))

module _ (test other : ℕ → Bool) (same : (n : ℕ) → n < 36525 → test n ≡ other n) where
  agree : (n : ℕ) → n < 0 + day_count → test n ≡ other n
  agree n lt = let count = day_count-is in same n (omega arith)

  pub counts_same : count_by test calendar ≡ count_by other calendar
  counts_same = over_same (λ n. cond (test n) 1 0) (λ n. cond (other n) 1 0) 0 day_count
      (λ n lt. ap (λ (b : Bool). cond b 1 0) (agree n lt))

  ends_by : (b : Bool) → ends_of test b ≡ ends_of other b
  ends_by true = ap₂ (λ (m n : ℕ). Some (m, n)) (first_same test other 0 day_count agree)
      (last_same test other 0 day_count agree)
  ends_by false = refl

  pub ends_same : ends_of test (list_any test calendar) ≡ ends_of other (list_any other calendar)
  ends_same = ap (ends_of test) (any_same test other 0 day_count agree)
      ∙ ends_by (list_any other calendar)

-- ---- marks

counted_from : (marks : List Bool) (all : List Bool) (a : ℕ)
    → ((k : ℕ) → k < length marks → get_or marks k false ≡ get_or all (a + k) false)
    → count_by (λ mark. mark) marks
    ≡ count_by (λ n. get_or all n false) (range_with_len a (length marks))
counted_from [] all a each = refl
counted_from (mark ∷ marks) all a each =
    let here : a + 0 ≡ a = omega arith in
    sum_by-cons (λ (m : Bool). cond m 1 0) mark marks
    ∙ ap₂ (λ (x y : ℕ). x + y)
    (ap (λ (m : Bool). cond m 1 0) (each 0 (omega arith) ∙ ap (λ (n : ℕ). get_or all n false) here))
    (counted_from marks all (a + 1) (λ k lt. let next : a + suc k ≡ a + 1 + k = omega arith in
    each (suc k) (omega arith) ∙ ap (λ (n : ℕ). get_or all n false) next))
    ∙ sym (sum_by-cons (λ (n : ℕ). cond (get_or all n false) 1 0) a
    (range_with_len (a + 1) (length marks)))

-- the marks of the days of the calendar are as many as the days that are marked
pub marks_counted : (marks : List Bool) → length marks ≡ 36525
    → count_by (λ mark. mark) marks ≡ count_by (λ n. get_or marks n false) calendar
marks_counted marks len =
    let count = day_count-is in
    counted_from marks marks 0 (λ k lt. let start : k ≡ 0 + k = omega arith in
    ap (λ (n : ℕ). get_or marks n false) start)
    ∙ ap (λ (n : ℕ). count_by (λ k. get_or marks k false) (range_with_len 0 n)) (len ∙ sym count)

-- no date more
pub no_dates : (test : ℕ → Bool) (marks : List Bool) → ((n : ℕ) → n < 36525 → test n ≡ false)
    → AddsDates test marks marks
no_dates test marks none = record {
  len = refl;
  each = λ n lt. or_false (get_or marks n false)
      ∙ ap (λ (b : Bool). get_or marks n false || b) (sym (none n lt));
}

-- the same dates
pub same_dates : (test other : ℕ → Bool) (old new : List Bool)
    → ((n : ℕ) → n < 36525 → test n ≡ other n) → AddsDates test old new → AddsDates other old new
same_dates test other old new same adds = record {
  len = adds.len;
  each = λ n lt. adds.each n lt ∙ ap (λ (b : Bool). get_or old n false || b) (same n lt);
}

-- one date more
pub one_date : (test : ℕ → Bool) (day : ℕ) (old mid new : List Bool) (was : Bool)
    → length old ≡ 36525
    → day < 36525 → was ≡ get_or mid day false → AddsDates (λ n. nat_lt n day && test n) old mid
    → new ≡ set mid day (was || test day) → AddsDates (λ n. nat_lt n (day + 1) && test n) old new
one_date test day old mid new was size within is adds added = record {
  len = ap length added ∙ length-set mid day (was || test day) ∙ adds.len;
  each = λ n lt. ap (λ (l : List Bool). get_or l n false) added ∙ at n lt (nat_eq day n) refl;
}
  where
    known : (a b d e : Bool) → a ≡ b → (d || (b && e)) ≡ (d || (a && e))
    known a b d e h = ap (λ (x : Bool). d || (x && e)) (sym h)

    off : (b d e : Bool) → b ≡ false → ((d || (b && e)) || e) ≡ (d || e)
    off b d e h = ap (λ (x : Bool). (d || (x && e)) || e) h ∙ by d e
      where
        by : (d e : Bool) → ((d || false) || e) ≡ (d || e)
        by true e = refl
        by false e = refl

    at : (n : ℕ) → n < 36525 → (b : Bool) → nat_eq day n ≡ b
        → get_or (set mid day (was || test day)) n false
        ≡ (get_or old n false || (nat_lt n (day + 1) && test n))
    at n lt true e =
        let same : n ≡ day = grind (arith, nat_tests) in
        let inside : day < length mid = (let l = adds.len in omega arith) in
        let early : nat_lt day day ≡ false = grind (arith, nat_tests) in
        let late : nat_lt day (day + 1) ≡ true = grind (arith, nat_tests) in
        ap (λ (i : ℕ). get_or (set mid day (was || test day)) i false) same
        ∙ rw get_or-set_same refl
        ∙ ap (λ (b : Bool). b || test day) (is ∙ adds.each day within)
        ∙ off (nat_lt day day) (get_or old day false) (test day) early
        ∙ ap (λ (b : Bool). get_or old day false || (b && test day)) (sym late)
        ∙ ap (λ (i : ℕ). get_or old i false || (nat_lt i (day + 1) && test i)) (sym same)
    at n lt false e =
        let other : n ≢ day = grind (arith, nat_tests) in
        let is_old : get_or (set mid day (was || test day)) n false ≡ get_or mid n false =
        rw get_or-set_other refl in
        let agree : nat_lt n day ≡ nat_lt n (day + 1) = grind (arith, nat_tests) in
        is_old ∙ adds.each n lt ∙ ap (λ (b : Bool). get_or old n false || (b && test n)) agree
