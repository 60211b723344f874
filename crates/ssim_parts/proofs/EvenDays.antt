-- Legs are moved alike on days on which they have the same UTC variations, and which are all of the
-- calendar's first and last day or none of them.
use Rattle.std.proofs.Common.{◌≡◌, ◌∙◌, ℕ, ◌+◌, ◌<◌, ◌≤◌, Bool, true, false, ◌&&◌, ◌||◌, nat_le}
use Rattle.std.proofs.Common.{nat_lt, if◌then◌else◌, List, [], ◌∷◌, map, refl, sym, ap, ap₂, arith}
use Rattle.std.proofs.Common.{bytes_eq}
use Rattle.std.specs.Prelude.{Option, Some, None, is_none, is_some, unwrap_or}
use Rattle.std.specs.List.{AllByRecursion}
use Rattle.std.proofs.lemmas.Bool.Decides.{nat_tests}
use Rattle.ssim_values.specs.Variation.{Offset}
use Rattle.ssim_values.specs.declared.time_mode.TimeMode.{TimeMode}
use Rattle.ssim_base.specs.Stations.{Row, covers, variation_at}
use Rattle.ssim_base.specs.Timetable.{LegValue, Legs}
use Rattle.ssim_parts.specs.MovedEnds.{arrival_of, days_after, departure_of, end_moved_by}
use Rattle.ssim_parts.specs.MovedEnds.{moved_time, no_variation, with_ends}
use Rattle.ssim_parts.specs.MovedLegs.{beyond_in, end_beyond, end_unknown}
use Rattle.ssim_parts.specs.declared.moved_flight.MovedFlight.{MovedFlight}
use Rattle.ssim_parts.specs.MovedLegs.{left_or_kept, legs_if_kept, moved_flight}
use Rattle.ssim_parts.specs.MovedLegs.{moved_end, moved_leg, moved_legs, or_of_table, or_reason}
use Rattle.ssim_parts.specs.MovedLegs.{outside, own_fate, own_reason, shift_of, unknown_in}
use Rattle.ssim_parts.specs.MovedLegs.{variation_on}
use Rattle.ssim_parts.specs.declared.fate.Fate.{Fate}
use Rattle.ssim_parts.specs.declared.fate.LeftReason.{LeftReason}
use Rattle.ssim_parts.specs.declared.fate.LeftReason.TheVariants.{Station, Letter, Calendar}
use Rattle.ssim_parts.specs.declared.leg_end.LegEnd.{LegEnd}
use Rattle.ssim_parts.specs.declared.moved_end.MovedEnd.{MovedEnd}
use Rattle.ssim_parts.specs.internal.Even.{IsEven, have_variations}
use Rattle.ssim_parts.proofs.Booleans.{both_ways}

-- the two ends of a leg have the same UTC variation on two days
pub record SameVariations (rows : List Row) (m n : ℕ) (leg : LegValue) : Type 0 where
  pub departure : variation_on rows m (departure_of leg.columns)
      ≡ variation_on rows n (departure_of leg.columns)
  pub arrival : variation_on rows m (arrival_of leg.columns)
      ≡ variation_on rows n (arrival_of leg.columns)

module _ (rows : List Row) (wanted : TimeMode) (m n : ℕ) where
  abbrev Same : Legs → Type 0
  Same legs = AllByRecursion (SameVariations rows m n) legs

  same_end : (end : LegEnd) → variation_on rows m end ≡ variation_on rows n end
      → moved_end rows wanted m end ≡ moved_end rows wanted n end
  same_end end same =
      ap (λ (o : Option Offset). end_moved_by wanted (unwrap_or o no_variation) end) same

  same_shift : (legs : Legs) → Same legs → shift_of rows wanted m legs ≡ shift_of rows wanted n legs
  same_shift [] a = refl
  same_shift (leg ∷ legs) a =
      ap (λ (o : Option Offset).
      (moved_time wanted (unwrap_or o no_variation) (departure_of leg.columns).time).day)
      a.0.departure

  same_unknown : (legs : Legs) → Same legs → unknown_in rows m legs ≡ unknown_in rows n legs
  same_unknown [] a = refl
  same_unknown (leg ∷ legs) a =
      let s = leg.sequence in
      let dep = departure_of leg.columns in
      let arr = arrival_of leg.columns in
      ap (λ (o : Option Offset). or_reason (if is_none o then Some (Station s)
      else (if is_none (days_after dep.date_variation) then Some (Letter s) else None))
      (or_reason (end_unknown rows m s arr) (unknown_in rows m legs))) a.0.departure
      ∙ ap (λ (o : Option Offset). or_reason (end_unknown rows n s dep)
      (or_reason (if is_none o then Some (Station s)
      else (if is_none (days_after arr.date_variation) then Some (Letter s) else None))
      (unknown_in rows m legs))) a.0.arrival
      ∙ ap (λ (later : Option LeftReason). or_reason (end_unknown rows n s dep)
      (or_reason (end_unknown rows n s arr) later)) (same_unknown legs a.1)

  same_beyond : (shift : ℕ) (legs : Legs) → Same legs
      → beyond_in rows wanted m shift legs ≡ beyond_in rows wanted n shift legs
  same_beyond shift [] a = refl
  same_beyond shift (leg ∷ legs) a =
      let s = leg.sequence in
      let dep = departure_of leg.columns in
      let arr = arrival_of leg.columns in
      ap (λ (end : MovedEnd). or_reason (end_beyond s shift end)
      (or_reason (end_beyond s shift (moved_end rows wanted m arr))
      (beyond_in rows wanted m shift legs))) (same_end dep a.0.departure)
      ∙ ap (λ (end : MovedEnd). or_reason (end_beyond s shift (moved_end rows wanted n dep))
      (or_reason (end_beyond s shift end) (beyond_in rows wanted m shift legs)))
      (same_end arr a.0.arrival)
      ∙ ap (λ (later : Option LeftReason).
      or_reason (end_beyond s shift (moved_end rows wanted n dep))
      (or_reason (end_beyond s shift (moved_end rows wanted n arr)) later))
      (same_beyond shift legs a.1)

  same_leg : (shift : ℕ) (leg : LegValue) → SameVariations rows m n leg
      → moved_leg rows wanted m shift leg ≡ moved_leg rows wanted n shift leg
  same_leg shift leg same =
      ap₂ (λ (dep arr : MovedEnd). record leg { columns = with_ends dep arr shift leg.columns })
      (same_end (departure_of leg.columns) same.departure)
      (same_end (arrival_of leg.columns) same.arrival)

  same_legs_by : (shift : ℕ) (legs : Legs) → Same legs
      → map (moved_leg rows wanted m shift) legs ≡ map (moved_leg rows wanted n shift) legs
  same_legs_by shift [] a = refl
  same_legs_by shift (leg ∷ legs) a =
      ap₂ (λ (x : LegValue) (xs : Legs). x ∷ xs) (same_leg shift leg a.0)
      (same_legs_by shift legs a.1)

  same_legs : (legs : Legs) → Same legs
      → moved_legs rows wanted m legs ≡ moved_legs rows wanted n legs
  same_legs legs a =
      ap (λ (s : ℕ). map (moved_leg rows wanted m s) legs) (same_shift legs a)
      ∙ same_legs_by (shift_of rows wanted n legs) legs a

  same_reason : (legs : Legs) → Same legs
      → outside m (shift_of rows wanted n legs) ≡ outside n (shift_of rows wanted n legs)
      → own_reason rows wanted m legs ≡ own_reason rows wanted n legs
  same_reason legs a same_outside =
      let s = shift_of rows wanted n legs in
      ap (λ (u : Option LeftReason). or_reason u
      (or_reason (outside m (shift_of rows wanted m legs))
      (beyond_in rows wanted m (shift_of rows wanted m legs) legs))) (same_unknown legs a)
      ∙ ap (λ (t : ℕ). or_reason (unknown_in rows n legs)
      (or_reason (outside m t) (beyond_in rows wanted m t legs))) (same_shift legs a)
      ∙ ap (λ (o : Option LeftReason). or_reason (unknown_in rows n legs)
      (or_reason o (beyond_in rows wanted m s legs))) same_outside
      ∙ ap (λ (b : Option LeftReason). or_reason (unknown_in rows n legs)
      (or_reason (outside n s) b)) (same_beyond s legs a)

  same_fate : (legs : Legs) → Same legs
      → outside m (shift_of rows wanted n legs) ≡ outside n (shift_of rows wanted n legs)
      → own_fate rows wanted m legs ≡ own_fate rows wanted n legs
  same_fate [] a same_outside = refl
  same_fate (leg ∷ legs) a same_outside =
      ap₂ left_or_kept (same_reason (leg ∷ legs) a same_outside) (same_shift (leg ∷ legs) a)

  pub same_flight : (legs : Legs) → Same legs
      → outside m (shift_of rows wanted n legs) ≡ outside n (shift_of rows wanted n legs)
      → moved_flight rows wanted m legs ≡ moved_flight rows wanted n legs
  same_flight legs a same_outside =
      ap₂ (λ (fate : Fate) (moved : Legs).
      let made : MovedFlight = record { fate = fate; legs = legs_if_kept fate moved } in made)
      (same_fate legs a same_outside) (same_legs legs a)

-- ---- the calendar

same_outside : (first end n shift : ℕ) → first ≤ n → n < end → end ≤ 36525
    → (first < 1 → end ≤ 1) → (first < 36524 → end ≤ 36524) → shift ≤ 2
    → outside n shift ≡ outside first shift
same_outside first end n shift from to within low high short =
    let a : nat_lt (n + shift) 1 ≡ nat_lt (first + shift) 1 =
    both_ways (nat_lt (n + shift) 1) (nat_lt (first + shift) 1)
    (λ e. let less : n + shift < 1 = grind (arith, nat_tests) in
    let goes : first + shift < 1 = omega (arith, less, from) in grind (arith, nat_tests))
    (λ e. let less : first + shift < 1 = grind (arith, nat_tests) in
    let one : end ≤ 1 = low (omega (arith, less)) in
    let goes : n + shift < 1 = omega (arith, less, to, one) in grind (arith, nat_tests)) in
    let b : nat_lt 36525 (n + shift) ≡ nat_lt 36525 (first + shift) =
    both_ways (nat_lt 36525 (n + shift)) (nat_lt 36525 (first + shift))
    (λ e. let more : 36525 < n + shift = grind (arith, nat_tests) in
    let goes : 36525 < first + shift = late first end n shift to high within short more in
    grind (arith, nat_tests))
    (λ e. let more : 36525 < first + shift = grind (arith, nat_tests) in
    let goes : 36525 < n + shift = omega (arith, more, from) in grind (arith, nat_tests)) in
    ap₂ (λ (x y : Bool). if x || y then Some Calendar else None) a b
  where
    late : (first end n shift : ℕ) → n < end → (first < 36524 → end ≤ 36524) → end ≤ 36525
        → shift ≤ 2 → 36525 < n + shift → 36525 < first + shift
    late first end n shift to high within short more = by (nat_lt first 36524) refl
      where
        by : (t : Bool) → nat_lt first 36524 ≡ t → 36525 < first + shift
        by true e =
            let early : first < 36524 = grind (arith, nat_tests) in
            let less : end ≤ 36524 = high early in
            absurd (omega (arith, less, to, more, short))
        by false e =
            let last : 36524 ≤ first = grind (arith, nat_tests) in
            omega (arith, last, more, to, within, short)

-- ---- the rows of a station table

-- a row has all days between its cuts, or none
pub steady_row : (row : Row) (station : List ℕ) (first end n : ℕ)
    → (first < row.first → end ≤ row.first)
    → (first < row.last + 1 → end ≤ row.last + 1) → first ≤ n → n < end
    → covers row station n ≡ covers row station first
steady_row row station first end n a b from to =
    ap (λ (x : Bool). bytes_eq row.station station && x)
    (ap₂ (λ (x y : Bool). x && y) (begun (nat_le row.first first) refl)
    (ended (nat_le first row.last) refl))
  where
    begun : (t : Bool) → nat_le row.first first ≡ t → nat_le row.first n ≡ nat_le row.first first
    begun true e = let h : row.first ≤ first = grind (arith, nat_tests) in
        let k : nat_le row.first n ≡ true = grind (arith, nat_tests) in k ∙ sym e
    begun false e = let h : first < row.first = grind (arith, nat_tests) in
        let l : end ≤ row.first = a h in
        let k : nat_le row.first n ≡ false = grind (arith, nat_tests) in k ∙ sym e

    ended : (t : Bool) → nat_le first row.last ≡ t → nat_le n row.last ≡ nat_le first row.last
    ended true e = let h : first ≤ row.last = grind (arith, nat_tests) in
        let l : end ≤ row.last + 1 = b (omega arith) in
        let k : nat_le n row.last ≡ true = grind (arith, nat_tests) in k ∙ sym e
    ended false e = let h : row.last < first = grind (arith, nat_tests) in
        let k : nat_le n row.last ≡ false = grind (arith, nat_tests) in k ∙ sym e

-- a row begins or ends on no day after the first one and before an end
pub record IsSteadyRow (first end : ℕ) (row : Row) : Type 0 where
  pub first_is : first < row.first → end ≤ row.first
  pub last_is : first < row.last + 1 → end ≤ row.last + 1

-- rows that are steady up to an end are so up to an earlier one
pub still_steady : (first end less : ℕ) (rows : List Row) → less ≤ end
    → AllByRecursion (IsSteadyRow first end) rows → AllByRecursion (IsSteadyRow first less) rows
still_steady first end less [] h a = tt
still_steady first end less (row ∷ rows) h a = (
  record {
    first_is = λ k. let l : end ≤ row.first = a.0.first_is k in omega (arith, l, h);
    last_is = λ k. let l : end ≤ row.last + 1 = a.0.last_is k in omega (arith, l, h);
  },
  still_steady first end less rows h a.1,
)

-- steady rows give each station one UTC variation
pub one_variation : (rows : List Row) (first end n : ℕ) (station : List ℕ)
    → AllByRecursion (IsSteadyRow first end) rows → first ≤ n → n < end
    → variation_at rows station n ≡ variation_at rows station first
one_variation [] first end n station a from to = refl
one_variation (row ∷ rows) first end n station a from to =
    ap₂ (λ (b : Bool) (v : Option Offset). if b then Some row.variation else v)
    (steady_row row station first end n a.0.first_is a.0.last_is from to)
    (one_variation rows first end n station a.1 from to)

-- an end whose UTC variation stays the same
stays_on : (rows : List Row) (m n : ℕ) (end : LegEnd)
    → variation_at rows end.station m ≡ variation_at rows end.station n
    → variation_on rows m end ≡ variation_on rows n end
stays_on rows m n end same = ap (or_of_table end.variation) same

pub all_same : (rows : List Row) (m n : ℕ) (legs : Legs)
    → ((station : List ℕ) → variation_at rows station m ≡ variation_at rows station n)
    → AllByRecursion (SameVariations rows m n) legs
all_same rows m n [] same = tt
all_same rows m n (leg ∷ legs) same = (
  record {
    departure =
        stays_on rows m n (departure_of leg.columns) (same (departure_of leg.columns).station);
    arrival = stays_on rows m n (arrival_of leg.columns) (same (arrival_of leg.columns).station);
  },
  all_same rows m n legs same,
)

-- ---- legs that have their UTC variations

and_both : (a b : Bool) → (a && b) ≡ true → (a ≡ true) × (b ≡ true)
and_both true b e = (refl, e)
and_both false b e = absurd cc

own_variation : (o a b : Option Offset) → is_some o ≡ true → or_of_table o a ≡ or_of_table o b
own_variation None a b e = absurd cc
own_variation (Some v) a b e = refl

pub all_theirs : (rows : List Row) (m n : ℕ) (legs : Legs) → have_variations legs ≡ true
    → AllByRecursion (SameVariations rows m n) legs
all_theirs rows m n [] a = tt
all_theirs rows m n (leg ∷ legs) a =
    let dep = departure_of leg.columns in
    let arr = arrival_of leg.columns in
    let both = and_both (is_some dep.variation && is_some arr.variation) (have_variations legs) a in
    let ends = and_both (is_some dep.variation) (is_some arr.variation) both.0 in (
      record {
        departure = own_variation dep.variation (variation_at rows dep.station m)
            (variation_at rows dep.station n) ends.0;
        arrival = own_variation arr.variation (variation_at rows arr.station m)
            (variation_at rows arr.station n) ends.1;
      },
      all_theirs rows m n legs both.1,
    )

-- ---- both

pub even_days : (rows : List Row) (legs : Legs) (first end : ℕ) → end ≤ 36525
    → (first < 1 → end ≤ 1) → (first < 36524 → end ≤ 36524)
    → ((n : ℕ) → first ≤ n → n < end → AllByRecursion (SameVariations rows n first) legs)
    → IsEven rows legs first end
even_days rows legs first end within low high same wanted short n from to =
    same_flight rows wanted n first legs (same n from to)
    (same_outside first end n (shift_of rows wanted first legs) from to within low high short)
