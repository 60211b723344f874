-- The dates of two halves of a range: what is said on the days of a half makes its dates.
use Rattle.std.proofs.Common.{◌≡◌, ◌∙◌, ◌⊎◌, inl, inr, ℕ, zero, suc, ◌+◌, ◌-◌, ◌/◌, ◌++◌, ◌≤◌, ◌<◌, Bool, true, false}
use Rattle.std.proofs.Common.{◌&&◌, ◌||◌, nat_le, if◌then◌else◌, filter, List, [], ◌∷◌, map, refl}
use Rattle.std.proofs.Common.{sym, ap, arith, slice_index_or, Result, Ok, Err, OnOk}
use Rattle.std.specs.List.{list_all, range_with_len}
use Rattle.std.specs.Option.{option_to_list}
use Rattle.std.proofs.lemmas.Bool.Decides.{nat_tests}
use Rattle.std.proofs.lemmas.List.Concat.{flat_map-append}
use Rattle.ssim_values.specs.Calendar.{slot}
use Rattle.ssim_values.specs.Period.{DayRange}
use Rattle.ssim_base.specs.Stations.{Row}
use Rattle.ssim_periods.specs.Calendar.{holds}
use Rattle.ssim_periods.specs.Pieces.{held_on}
use Rattle.ssim_overview.specs.SaidRows.{said, with_variation}
use Rattle.ssim_overview.specs.internal.SaidRows.{Dated, Unchanged, dates_said, grown, is_steady, meets}
use Rattle.ssim_overview.specs.declared.sayings.Saying.{Saying}
use Rattle.ssim_overview.proofs.SaidDays.{agree, grown_on, range_split}

-- ---- no change

either : (a m n : ℕ) → (nat_le a m || nat_le n a) ≡ true → (a ≤ m) ⊎ (n ≤ a)
either a m n h = by (nat_le a m) refl h
  where
    low : nat_le a m ≡ true → a ≤ m
    low t = grind (arith, nat_tests)

    high : nat_le n a ≡ true → n ≤ a
    high t = grind (arith, nat_tests)

    by : (b : Bool) → nat_le a m ≡ b → (b || nat_le n a) ≡ true → (a ≤ m) ⊎ (n ≤ a)
    by true e t = inl (low e)
    by false e t = inr (high t)

pub and_first : (a b : Bool) → (a && b) ≡ true → a ≡ true
and_first true b t = refl
and_first false b t = absurd cc

pub and_second : (a b : Bool) → (a && b) ≡ true → b ≡ true
and_second true b t = t
and_second false b t = absurd cc

pub steady_days : (from end : ℕ) (sayings : List Dated)
    → list_all (λ saying. is_steady from end saying.0) sayings ≡ true → Unchanged from end sayings
steady_days from end [] h = tt
steady_days from end (x ∷ sayings) h =
    let one = and_first (is_steady from end x.0) (list_all (λ (s : Dated). is_steady from end s.0) sayings) h in
    let begins = nat_le x.0.first from || nat_le end x.0.first in
    let ends = nat_le (x.0.last + 1) from || nat_le end (x.0.last + 1) in (
      (either x.0.first from end (and_first begins ends one), either (x.0.last + 1) from end (and_second begins ends one)),
      steady_days from end sayings
          (and_second (is_steady from end x.0) (list_all (λ (s : Dated). is_steady from end s.0) sayings) h),
    )

-- within two days next to one another nothing changes
pub one_day : (from end : ℕ) (sayings : List Dated) → from < end → from + (end - from) / 2 ≡ from
    → Unchanged from end sayings
one_day from end [] lt is = tt
one_day from end (x ∷ sayings) lt is =
    let next : end ≡ from + 1 = omega arith in
    ((near x.0.first next, near (x.0.last + 1) next), one_day from end sayings lt is)
  where
    near : (a : ℕ) → end ≡ from + 1 → (a ≤ from) ⊎ (end ≤ a)
    near a next = elim (nat_le a from) as (λ b. nat_le a from ≡ b → (a ≤ from) ⊎ (end ≤ a)) [
      | true ↦ λ e. inl (grind (arith, nat_tests))
      | false ↦ λ e. inr (grind (arith, nat_tests))
    ] refl

-- ---- none

pub no_dates : (from count : ℕ) → dates_said [] from count ≡ []
no_dates from zero = refl
no_dates from (suc count) = no_dates (from + 1) count

pub no_days : (station : List ℕ) (rows : List Row) (sayings : List Dated) (from count : ℕ) → sayings ≡ []
    → rows ≡ grown station rows (dates_said sayings from count)
no_days station rows sayings from count none =
    sym (ap (λ (s : List Dated). grown station rows (dates_said s from count)) none
    ∙ ap (grown station rows) (no_dates from count))

-- ---- halves

outside : (from end n : ℕ) (p : DayRange) → from ≤ n → n < end → meets from end p ≡ false → holds p n ≡ false
outside from end n p low high h =
    let off : (nat_le p.first n && nat_le n p.last) ≡ false = grind (arith, nat_tests) in
    ap (λ (b : Bool). b && slice_index_or p.days (slot n) false) off

held_meets : (from end n : ℕ) (sayings : List Dated) → from ≤ n → n < end
    → held_on (filter (λ saying. meets from end saying.0) sayings) n ≡ held_on sayings n
held_meets from end n [] low high = refl
held_meets from end n (x ∷ sayings) low high =
    by (held_meets from end n sayings low high) (meets from end x.0) refl
  where
    kept : List Dated
    kept = filter (λ saying. meets from end saying.0) sayings

    by : held_on kept n ≡ held_on sayings n → (b : Bool) → meets from end x.0 ≡ b
        → held_on (if b then x ∷ kept else kept) n
        ≡ (if holds x.0 n then x.1 ∷ held_on sayings n else held_on sayings n)
    by rest true e = ap (λ (h : List Saying). if holds x.0 n then x.1 ∷ h else h) rest
    by rest false e = rest ∙ ap (λ (b : Bool). if b then x.1 ∷ held_on sayings n else held_on sayings n)
        (sym (outside from end n x.0 low high e))

dates_meet : (from end : ℕ) (sayings some : List Dated) → from ≤ end
    → some ≡ filter (λ saying. meets from end saying.0) sayings
    → dates_said some from (end - from) ≡ dates_said sayings from (end - from)
dates_meet from end sayings some le is =
    ap (λ (s : List Dated). dates_said s from (end - from)) is
    ∙ agree (λ n. said (held_on (filter (λ saying. meets from end saying.0) sayings) n))
    (λ n. said (held_on sayings n)) from (end - from)
    (λ n low high. ap said (held_meets from end n sayings low (omega arith)))

pub dates_halves : (from middle end : ℕ) (sayings : List Dated) → from ≤ middle → middle ≤ end
    → dates_said sayings from (middle - from) ++ dates_said sayings middle (end - middle)
    ≡ dates_said sayings from (end - from)
dates_halves from middle end sayings le less =
    let all : (middle - from) + (end - middle) ≡ end - from = omega arith in
    let at : from + (middle - from) ≡ middle = omega arith in
    sym (flat_map-append (λ (n : ℕ). map (λ v. (n, v)) (option_to_list (said (held_on sayings n))))
    (range_with_len from (middle - from)) (range_with_len middle (end - middle)))
    ∙ ap (with_variation (λ n. said (held_on sayings n)))
    (sym (range_split from (middle - from) (end - middle)
    ∙ ap (λ (k : ℕ). range_with_len from (middle - from) ++ range_with_len k (end - middle)) at)
    ∙ ap (range_with_len from) all)

pub days_handed : {T E : Type 0} (station : List ℕ) (from middle end : ℕ)
    (sayings before after first last : List Dated) (rows some all : List Row) (r : Result T E)
    → from ≤ middle → middle ≤ end
    → before ≡ filter (λ saying. meets from middle saying.0) sayings
    → after ≡ filter (λ saying. meets middle end saying.0) sayings
    → first ≡ before → last ≡ after
    → some ≡ grown station rows (dates_said first from (middle - from))
    → OnOk r (all ≡ grown station some (dates_said last middle (end - middle)))
    → OnOk r (all ≡ grown station rows (dates_said sayings from (end - from)))
days_handed station from middle end sayings before after first last rows some all (Ok x) le less b a f l are more =
    more
    ∙ ap (grown station some) (dates_meet middle end sayings last less (l ∙ a))
    ∙ ap (λ (y : List Row). grown station y (dates_said sayings middle (end - middle)))
    (are ∙ ap (grown station rows) (dates_meet from middle sayings first le (f ∙ b)))
    ∙ grown_on station rows (dates_said sayings from (middle - from)) (dates_said sayings middle (end - middle))
    ∙ ap (grown station rows) (dates_halves from middle end sayings le less)
days_handed station from middle end sayings before after first last rows some all (Err e) le less b a f l are more = tt
