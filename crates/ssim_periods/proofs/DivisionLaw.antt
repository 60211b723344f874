-- A cover is the one division of a set: its periods are each the next, and two divisions agree period
-- by period, since the first day, the weekdays, the break and the last day are each determined.
use Rattle.std.proofs.Common.{◌≡◌, ◌≢◌, ℕ, zero, suc, ◌+◌, ◌-◌, ◌<◌, ◌≤◌, Bool, true, false, nat_lt, List, [], ◌∷◌, slice_index_or, refl, ap, ◌∙◌, sym, subst, arith, ◌⊎◌, inl, inr}
use Rattle.std.proofs.lemmas.Bool.Decides.{nat_tests}
use Rattle.ssim_values.specs.Period.{DayRange}
use Rattle.ssim_values.specs.Calendar.{first_on, slot}
use Rattle.ssim_periods.specs.Cover.{first_where, weekdays_of, differ, breaks, break_after, period_at, cover_from, cover, IsNextPeriod, AreDivision, DivisionLaw}
use Rattle.ssim_periods.proofs.CoverLemmas.{le_or_lt, same_or_less, first_where-either, first_where-is, first_where-none, last_where-is, weekdays_of-own, differ-same, same-differ, cover_from-step}

true-false : (b : Bool) → b ≡ true → b ≡ false → ⊥
true-false b t f = let bad : true ≡ false = sym t ∙ f in cc

-- ---- two divisions are one

same-first : (is_in : ℕ → Bool) (from a c : ℕ) → from ≤ a → is_in a ≡ true → ((n : ℕ) → from ≤ n → n < a → is_in n ≡ false)
    → from ≤ c → is_in c ≡ true → ((n : ℕ) → from ≤ n → n < c → is_in n ≡ false) → a ≡ c
same-first is_in from a c low here before low' here' before' =
    elim (le_or_lt a c) [
      | inl le ↦ elim (same_or_less a c le) [ inl same ↦ same | inr lt ↦ absurd (true-false (is_in a) here (before' a low lt)) ]
      | inr lt ↦ absurd (true-false (is_in c) here' (before c low' lt))
    ]

same-last : (is_in : ℕ → Bool) (b l m : ℕ) → l ≤ b → is_in l ≡ true → ((n : ℕ) → l < n → n ≤ b → is_in n ≡ false)
    → m ≤ b → is_in m ≡ true → ((n : ℕ) → m < n → n ≤ b → is_in n ≡ false) → l ≡ m
same-last is_in b l m low here after low' here' after' =
    elim (le_or_lt l m) [
      | inl le ↦ elim (same_or_less l m le) [ inl same ↦ same | inr lt ↦ absurd (true-false (is_in m) here' (after m lt low')) ]
      | inr lt ↦ absurd (true-false (is_in l) here (after' l lt low))
    ]

same-break : (is_in : ℕ → Bool) (a b c : ℕ) (mask : List Bool) → a ≤ b → a ≤ c
    → ((n : ℕ) → a ≤ n → n ≤ b → is_in n ≡ slice_index_or mask (slot n) false)
    → ((n : ℕ) → a ≤ n → n ≤ c → is_in n ≡ slice_index_or mask (slot n) false)
    → is_in (b + 1) ≢ slice_index_or mask (slot (b + 1)) false → is_in (c + 1) ≢ slice_index_or mask (slot (c + 1)) false → b ≡ c
same-break is_in a b c mask low low' repeats repeats' greatest greatest' =
    elim (le_or_lt b c) [
      | inl le ↦ elim (same_or_less b c le) [ inl same ↦ same | inr lt ↦ absurd (greatest (repeats' (b + 1) (omega arith) (omega arith))) ]
      | inr lt ↦ absurd (greatest' (repeats (c + 1) (omega arith) (omega arith)))
    ]

pub one_division : (is_in : ℕ → Bool) (ps qs : List DayRange) (from : ℕ) → AreDivision from is_in ps → AreDivision from is_in qs → ps ≡ qs
one_division is_in [] [] from d e = refl
one_division is_in [] (q ∷ qs) from d e = absurd (true-false (is_in q.first) e.1.begins.1 (d q.first e.1.begins.0))
one_division is_in (p ∷ ps) [] from d e = absurd (true-false (is_in p.first) d.1.begins.1 (e p.first d.1.begins.0))
one_division is_in (p ∷ ps) (q ∷ qs) from d e =
    let x = d.1 in let y = e.1 in
    let first : p.first ≡ q.first = same-first is_in from p.first q.first x.begins.0 x.begins.1 x.least y.begins.0 y.begins.1 y.least in
    let days : p.days ≡ q.days = x.days ∙ ap (weekdays_of is_in) first ∙ sym y.days in
    let own = subst (λ (f : ℕ). f ≤ e.0) (sym first) y.reaches in
    let its : (n : ℕ) → p.first ≤ n → n ≤ e.0 → is_in n ≡ slice_index_or p.days (slot n) false =
    λ n low high. y.repeats n (subst (λ (f : ℕ). f ≤ n) first low) high ∙ ap (λ (m : List Bool). slice_index_or m (slot n) false) (sym days) in
    let no : is_in (e.0 + 1) ≢ slice_index_or p.days (slot (e.0 + 1)) false =
    λ same. y.greatest (same ∙ ap (λ (m : List Bool). slice_index_or m (slot (e.0 + 1)) false) days) in
    let stops : d.0 ≡ e.0 = same-break is_in p.first d.0 e.0 p.days x.reaches own x.repeats its x.greatest no in
    let last : p.last ≡ q.last = same-last is_in d.0 p.last q.last x.ends.0 x.ends.1 x.last
    (subst (λ (b : ℕ). q.last ≤ b) (sym stops) y.ends.0) y.ends.1 (λ n low high. y.last n low (subst (λ (b : ℕ). n ≤ b) stops high)) in
    let rest : ps ≡ qs = one_division is_in ps qs (d.0 + 1) d.2 (subst (λ (b : ℕ). AreDivision (b + 1) is_in qs) (sym stops) e.2) in
    rw (first, days, last, rest) refl

-- ---- a cover is a division

-- a set that has the first day and no day from `end` on breaks its weekdays within the week from `end` on
breaks-later : (is_in : ℕ → Bool) (a end : ℕ) → is_in a ≡ true → ((n : ℕ) → end ≤ n → is_in n ≡ false)
    → breaks is_in (weekdays_of is_in a) (first_on (slot a) end) ≡ true
breaks-later is_in a end here outside =
    let day = first_on (slot a) end in
    let same : slot day ≡ slot a = omega arith in
    let off : is_in day ≡ false = outside day (omega arith) in
    let on : slice_index_or (weekdays_of is_in a) (slot day) false ≡ true =
    ap (λ (w : ℕ). slice_index_or (weekdays_of is_in a) w false) same ∙ weekdays_of-own is_in a ∙ here in
    ap (λ (t : Bool). differ t (slice_index_or (weekdays_of is_in a) (slot day) false)) off
    ∙ ap (λ (t : Bool). differ false t) on

-- no period covers a set's days from `end` on
none_from : (count : ℕ) (is_in : ℕ → Bool) (end : ℕ) → cover_from count is_in end end ≡ []
none_from zero is_in end = refl
none_from (suc count) is_in end =
    let none : end - end ≡ 0 = omega arith in
    let at : first_where is_in end (end - end) ≡ end = ap (first_where is_in end) none in
    let off : nat_lt (first_where is_in end (end - end)) end ≡ false = ap (λ (n : ℕ). nat_lt n end) at ∙ grind (arith, nat_tests) in
    rw off refl

-- where the pattern of the first seven days breaks, whether days of the set follow or not
pub record IsBreak (is_in : ℕ → Bool) (a end stop : ℕ) : Type 0 where
  pub after : a < stop
  pub repeats : (n : ℕ) → a ≤ n → n < stop → is_in n ≡ slice_index_or (weekdays_of is_in a) (slot n) false
  pub breaks : is_in stop ≢ slice_index_or (weekdays_of is_in a) (slot stop) false
  pub is : (break_after is_in a end ≡ stop) ⊎ ((break_after is_in a end ≡ end) × (end ≤ stop))

-- a break exists: in the week after the end at the latest
found-break : (is_in : ℕ → Bool) (a end : ℕ) → a < end → is_in a ≡ true → ((n : ℕ) → end ≤ n → is_in n ≡ false)
    → (stop : ℕ) × IsBreak is_in a end stop
found-break is_in a end lt here outside =
    let mask = weekdays_of is_in a in
    let test = breaks is_in mask in
    let own : test a ≡ false = differ-same (is_in a) _ (sym (weekdays_of-own is_in a)) in
    let later = first_on (slot a) end in
    elim (first_where-either test a (end + 7 - a)) [
      | inl none ↦ absurd (true-false (test later) (breaks-later is_in a end here outside) (none.1 later (omega arith) (omega arith)))
      | inr some ↦
          let stop = first_where test a (end + 7 - a) in
          let low = some.0 in
          let after : a < stop = elim (same_or_less a stop low) [
            | inl e ↦ absurd (true-false (test stop) some.2 (ap test (sym e) ∙ own))
            | inr l ↦ l
          ] in (
            stop,
            record {
              after = after;
              repeats = λ n l u. same-differ (is_in n) _ (some.3 n l u);
              breaks = λ same. true-false (test stop) some.2 (differ-same (is_in stop) _ same);
              is = elim (le_or_lt end stop) [
                | inl past ↦ inr (first_where-none test a (end - a) (λ n l u. some.3 n l (omega arith)) ∙ omega arith, past)
                | inr within ↦ inl (first_where-is test a (end - a) stop low (omega arith) some.2 some.3)
              ];
            },
          )
    ]

next-period : (is_in : ℕ → Bool) (from a end stop : ℕ) → from ≤ a → a < end → is_in a ≡ true
    → ((n : ℕ) → from ≤ n → n < a → is_in n ≡ false) → ((n : ℕ) → end ≤ n → is_in n ≡ false)
    → (b : ℕ) → b + 1 ≡ stop → IsBreak is_in a end stop → IsNextPeriod is_in from (period_at is_in a (break_after is_in a end)) b
next-period is_in from a end stop low lt here before outside b is_stop k =
    let after = break_after is_in a end in
    let gt = k.after in
    let l = last_where-is is_in a (after - a) here in
    let most = l.1 in
    let reach : (a < after) × (after ≤ stop) × ((n : ℕ) → after ≤ n → n < stop → is_in n ≡ false) = elim k.is [
      | inl at ↦ (omega arith, omega arith, λ n x y. absurd (omega arith))
      | inr at ↦ let e = at.0 in let h = at.1 in (omega arith, omega arith, λ n x y. outside n (omega arith))
    ] in
    let wide = reach.0 in
    let within = reach.1 in
    record {
      begins = (low, here);
      least = before;
      days = refl;
      reaches = omega arith;
      repeats = λ n x y. k.repeats n x (omega arith);
      greatest = subst (λ (n : ℕ). is_in n ≢ slice_index_or (weekdays_of is_in a) (slot n) false) (sym is_stop) k.breaks;
      ends = (omega arith, l.2);
      last = λ n x y. elim (le_or_lt after n) [ inl past ↦ reach.2 n past (omega arith) | inr inside ↦ l.3 n x (omega arith) ];
    }

cover-divides : (count : ℕ) (is_in : ℕ → Bool) (from end : ℕ) → end - from ≤ count → ((n : ℕ) → end ≤ n → is_in n ≡ false)
    → AreDivision from is_in (cover_from count is_in from end)
cover-divides zero is_in from end fuel outside = λ n h. outside n (omega arith)
cover-divides (suc count) is_in from end fuel outside =
    cover_from-step count is_in from end (AreDivision from is_in)
    (λ none n h. elim (le_or_lt end n) [ inl past ↦ outside n past | inr inside ↦ none n h inside ])
    (λ a f.
    let after = break_after is_in a end in
    let low = f.low in let lt = f.lt in
    let found = found-break is_in a end lt f.own outside in
    let stop = found.0 in
    let k = found.1 in
    let gt = k.after in
    let one : (stop - 1) + 1 ≡ stop = omega arith in (
      stop - 1,
      next-period is_in from a end stop low lt f.own f.least outside (stop - 1) one k,
      elim k.is [
        | inl at ↦ subst (λ (n : ℕ). AreDivision n is_in (cover_from count is_in after end)) (at ∙ sym one)
            (cover-divides count is_in after end (omega arith) outside)
        | inr at ↦ let high = at.1 in
            subst (λ (ps : List DayRange). AreDivision (stop - 1 + 1) is_in ps)
            (sym (ap (λ (n : ℕ). cover_from count is_in n end) at.0 ∙ none_from count is_in end)) (λ n h. outside n (omega arith))
      ],
    ))

pub division_law : DivisionLaw
division_law is_in end outside periods = (
  λ d. one_division is_in periods (cover is_in end) 0 d (cover-divides end is_in 0 end (omega arith) outside),
  λ same. subst (λ (ps : List DayRange). AreDivision 0 is_in ps) (sym same) (cover-divides end is_in 0 end (omega arith) outside),
)
