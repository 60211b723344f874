-- The flight dates are those of the pieces, counted: each date that has a value is in exactly one
-- piece.
use Rattle.std.proofs.Common.{◌≡◌, ◌∙◌, ℕ, zero, suc, ◌+◌, ◌*◌, ◌^◌, ◌<◌, ◌≤◌, Bool, cond, true, false}
use Rattle.std.proofs.Common.{if◌then◌else◌, List, [], ◌∷◌, filter, get_or, length, map, take}
use Rattle.std.proofs.Common.{refl, sym, ap, ap₂, arith}
use Rattle.std.specs.List.{count_by, range_with_len, sum_by}
use Rattle.std.proofs.lemmas.List.FromFn.{length-range_with_len, length-map-range_with_len}
use Rattle.std.proofs.lemmas.List.Sums.{count_by-le-length, sum_by-cons, sum_by_more}
use Rattle.ssim_values.specs.Flight.{FlightNumber}
use Rattle.ssim_values.specs.Period.{DayRange}
use Rattle.ssim_values.specs.declared.time_mode.TimeMode.{TimeMode}
use Rattle.ssim_periods.specs.Calendar.{day_count, holds}
use Rattle.ssim_periods.specs.Days.{each_day}
use Rattle.ssim_periods.specs.Pieces.{alone, held_on}
use Rattle.ssim_periods.proofs.DayLemmas.{day_count-is, index-each_day}
use Rattle.ssim_periods.proofs.PieceLaw.{pieces_law}
use Rattle.ssim_base.specs.Export.{all_flights, flight_at, flight_count, pieces, same_itinerary}
use Rattle.ssim_base.specs.Stations.{Row}
use Rattle.ssim_base.specs.Timetable.{Days, Legs, on_day}
use Rattle.ssim_base.specs.clauses.ItineraryLaws.{exact_itinerary}
use Rattle.ssim_schedule.specs.FlightPieces.{Divided, divided, divided_flights, flies}
use Rattle.ssim_parts.specs.ConversionLines.{dates_with, flies_with, flight_dates}
use Rattle.ssim_parts.specs.ConversionLines.{flight_dates_with}
use Rattle.ssim_parts.specs.Converted.{fate_among, fate_on}
use Rattle.ssim_parts.specs.Fates.{same_fate}
use Rattle.ssim_parts.specs.FlightFates.{fate_pieces, fates_of}
use Rattle.ssim_parts.specs.MovedLegs.{own_fate}
use Rattle.ssim_parts.specs.declared.fate.Fate.{Fate}
use Rattle.ssim_parts.specs.declared.fate.Fate.TheVariants.{Absent, Kept, Left}
use Rattle.ssim_parts.specs.declared.fate.LeftReason.TheVariants as why
use Rattle.ssim_parts.specs.internal.Counted.{all_dates, any_legs, capped, dates_in, days_if}
use Rattle.ssim_parts.specs.internal.FateOrder.{same_fate_exact}
use Rattle.ssim_parts.proofs.NewTimetable.{flight_fate, no_pieces}

-- ---- sums over days

abbrev over : (ℕ → ℕ) → ℕ → ℕ → ℕ
over f a k = sum_by f (range_with_len a k)

over_none : (a k : ℕ) → over (λ n. 0) a k ≡ 0
over_none a zero = refl
over_none a (suc k) =
    let first = sum_by-cons (λ (n : ℕ). 0) a (range_with_len (a + 1) k) in
    let rest = over_none (a + 1) k in
    omega arith

over_both : (f g : ℕ → ℕ) (a k : ℕ) → over (λ n. f n + g n) a k ≡ over f a k + over g a k
over_both f g a zero = refl
over_both f g a (suc k) =
    let all = sum_by-cons (λ (n : ℕ). f n + g n) a (range_with_len (a + 1) k) in
    let one = sum_by-cons f a (range_with_len (a + 1) k) in
    let other = sum_by-cons g a (range_with_len (a + 1) k) in
    let rest = over_both f g (a + 1) k in
    omega arith

over_same : (f g : ℕ → ℕ) (a k : ℕ) → ((n : ℕ) → n < a + k → f n ≡ g n) → over f a k ≡ over g a k
over_same f g a zero h = refl
over_same f g a (suc k) h =
    sum_by-cons f a (range_with_len (a + 1) k)
    ∙ ap₂ (λ (x y : ℕ). x + y) (h a (omega arith)) (over_same f g (a + 1) k (λ n l. h n (omega arith)))
    ∙ sym (sum_by-cons g a (range_with_len (a + 1) k))

abbrev one_for : Bool → ℕ
one_for b = cond b 1 0

-- a test that no day passes
none_pass : (p : ℕ → Bool) → ((n : ℕ) → p n ≡ false)
    → count_by p (range_with_len 0 day_count) ≡ 0
none_pass p none =
    over_same (λ n. cond (p n) 1 0) (λ n. 0) 0 day_count
    (λ n l. ap one_for (none n))
    ∙ over_none 0 day_count

-- ---- the dates of pieces

-- one period, and whether its value passes
one_period : (period : DayRange) (b : Bool) (a k : ℕ)
    → (if b then count_by (holds period) (range_with_len a k) else 0)
    ≡ over (λ n. cond b (cond (holds period n) 1 0) 0) a k
one_period period true a k = refl
one_period period false a k = sym (over_none a k)

held_more : {V : Type 0} (test : V → Bool) (piece : DayRange × V) (ps : List (DayRange × V)) (n : ℕ)
    → cond (test piece.1) (cond (holds piece.0 n) 1 0) 0 + count_by test (held_on ps n)
    ≡ count_by test (held_on (piece ∷ ps) n)
held_more {V} test piece ps n = by (test piece.1) (holds piece.0 n) refl
  where
    by : (b h : Bool) → test piece.1 ≡ b
        → cond b (cond h 1 0) 0 + count_by test (held_on ps n)
        ≡ count_by test (if h then piece.1 ∷ held_on ps n else held_on ps n)
    by true true e =
        let more = sum_by-cons (λ (v : V). cond (test v) 1 0) piece.1 (held_on ps n) in
        let one : one_for (test piece.1) ≡ 1 = ap one_for e in
        omega arith
    by false true e =
        let more = sum_by-cons (λ (v : V). cond (test v) 1 0) piece.1 (held_on ps n) in
        let one : one_for (test piece.1) ≡ 0 = ap one_for e in
        omega arith
    by true false e = omega arith
    by false false e = omega arith

-- the days of pieces, piece by piece or day by day
by_day : {V : Type 0} (test : V → Bool) (ps : List (DayRange × V)) (a k : ℕ)
    → sum_by (λ p. if test p.1 then count_by (holds p.0) (range_with_len a k) else 0) ps
    ≡ over (λ n. count_by test (held_on ps n)) a k
by_day test [] a k = sym (over_none a k)
by_day {V} test (piece ∷ ps) a k =
    sum_by-cons (λ (p : DayRange × V). if test p.1 then count_by (holds p.0) (range_with_len a k)
    else 0) piece ps
    ∙ ap₂ (λ (x y : ℕ). x + y) (one_period piece.0 (test piece.1) a k) (by_day test ps a k)
    ∙ sym (over_both (λ n. cond (test piece.1) (cond (holds piece.0 n) 1 0) 0)
    (λ n. count_by test (held_on ps n)) a k)
    ∙ over_same (λ n. cond (test piece.1) (cond (holds piece.0 n) 1 0) 0
    + count_by test (held_on ps n)) (λ n. count_by test (held_on (piece ∷ ps) n)) a k
    (λ n l. held_more test piece ps n)

-- the dates of pieces are the days that pass, if each of these is in one piece that passes
pub dates_are : {V : Type 0} (test : V → Bool) (ps : List (DayRange × V)) (passes : ℕ → Bool)
    → ((n : ℕ) → n < day_count → count_by test (held_on ps n) ≡ cond (passes n) 1 0)
    → dates_in test ps ≡ count_by passes (range_with_len 0 day_count)
dates_are test ps passes each =
    by_day test ps 0 day_count
    ∙ over_same (λ n. count_by test (held_on ps n)) (λ n. cond (passes n) 1 0) 0 day_count
    (λ n l. each n (omega arith))

one_if : (b : Bool) → 0 + cond b 1 0 ≡ cond b 1 0
one_if true = refl
one_if false = refl

-- ---- one flight

module _ (test : Fate → Bool) (absent : test Absent ≡ false) where
  alone_fate : (fate : Fate) → count_by test (alone same_fate Absent fate) ≡ cond (test fate) 1 0
  alone_fate Absent = sym (ap one_for absent)
  alone_fate (Kept shift) = one_if (test (Kept shift))
  alone_fate (Left (why.Station sequence)) = one_if (test (Left (why.Station sequence)))
  alone_fate (Left (why.Letter sequence)) = one_if (test (Left (why.Letter sequence)))
  alone_fate (Left (why.Days sequence)) = one_if (test (Left (why.Days sequence)))
  alone_fate (Left why.Calendar) = one_if (test (Left why.Calendar))
  alone_fate (Left why.Date) = one_if (test (Left why.Date))

  fate_dates : (rows : List Row) (wanted : TimeMode) (days : Days)
      → dates_in test (fate_pieces rows wanted days) ≡ dates_with test rows wanted days
  fate_dates rows wanted days =
      let fates = λ (n : ℕ). fate_on rows wanted days n in
      dates_are test (fate_pieces rows wanted days) (λ n. test (fates n))
      (λ n within. ap (count_by test)
      ((pieces_law same_fate Absent same_fate_exact (each_day fates)).on_each_day n
      ∙ ap (alone same_fate Absent) (index-each_day fates n Absent (rw day_count-is at within)))
      ∙ alone_fate (fates n))

  -- a flight that flies on no date has no flight dates
  no_fates : (rows : List Row) (wanted : TimeMode) (days : Days)
      → ((n : ℕ) → on_day days n ≡ []) → dates_with test rows wanted days ≡ 0
  no_fates rows wanted days none =
      none_pass (λ n. test (fate_on rows wanted days n))
      (λ n. ap (λ (legs : Legs). test (fate_among rows wanted days n (own_fate rows wanted n legs)))
      (none n) ∙ absent)

alone_legs : (legs : Legs)
    → count_by any_legs (alone same_itinerary [] legs) ≡ cond (flies_with legs) 1 0
alone_legs [] = refl
alone_legs (leg ∷ legs) = refl

abbrev flown_on : Days → ℕ
flown_on days = count_by (λ n. flies_with (on_day days n)) (range_with_len 0 day_count)

leg_dates : (days : Days) → dates_in any_legs (pieces days) ≡ flown_on days
leg_dates days =
    dates_are any_legs (pieces days) (λ n. flies_with (on_day days n))
    (λ n within. ap (count_by any_legs)
    ((pieces_law same_itinerary [] exact_itinerary days).on_each_day n)
    ∙ alone_legs (on_day days n))

no_legs : (days : Days) → ((n : ℕ) → on_day days n ≡ []) → flown_on days ≡ 0
no_legs days none = none_pass (λ n. flies_with (on_day days n)) (λ n. ap flies_with (none n))

-- ---- all flights

-- the dates of the flights that fly, if those of each one are counted and the others have none
flights_dates : {V : Type 0} (test : V → Bool) (days : FlightNumber → Days)
    (one : Divided → FlightNumber × List (DayRange × V)) (dates : FlightNumber → ℕ)
    → ((f : FlightNumber) → dates_in test (one (divided days f)).1 ≡ dates f)
    → ((f : FlightNumber) → flies (divided days f) ≡ false → dates f ≡ 0)
    → (fs : List FlightNumber)
    → all_dates test (map one (filter flies (map (divided days) fs))) ≡ sum_by dates fs
flights_dates test days one dates each none [] = refl
flights_dates {V} test days one dates each none (f ∷ fs) =
    by (flies (divided days f)) refl (flights_dates test days one dates each none fs)
    ∙ sym (sum_by-cons dates f fs)
  where
    later : List Divided
    later = filter flies (map (divided days) fs)

    by : (b : Bool) → flies (divided days f) ≡ b
        → all_dates test (map one later) ≡ sum_by dates fs
        → all_dates test (map one (if b then divided days f ∷ later else later))
        ≡ dates f + sum_by dates fs
    by true e rest =
        sum_by-cons (λ (flight : FlightNumber × List (DayRange × V)). dates_in test flight.1)
        (one (divided days f)) (map one later)
        ∙ ap₂ (λ (x y : ℕ). x + y) (each f) rest
    by false e rest = let nothing = none f e in omega arith

-- ---- the greatest number of dates

few_of : (total flights : ℕ) → total ≤ flights * 36525 → flights ≡ 270000 → total < 2 ^ 64
few_of total flights h is = omega arith

pub number_of_flights : length all_flights ≡ 270000
unfolding flight_count
number_of_flights = length-map-range_with_len flight_at 0 270000

module _ (passes : FlightNumber → ℕ → Bool) where
  abbrev dates_of : FlightNumber → ℕ
  dates_of f = count_by (passes f) (range_with_len 0 day_count)

  bounded : (fs : List FlightNumber) → sum_by dates_of fs ≤ length fs * 36525
  bounded [] = omega arith
  bounded (f ∷ fs) =
      let most = count_by-le-length (passes f) (range_with_len 0 day_count) in
      let days = length-range_with_len 0 day_count in
      let count = day_count-is in
      let later = bounded fs in
      let all = sum_by-cons dates_of f fs in
      omega arith

  pub few : sum_by dates_of all_flights < 2 ^ 64
  few = few_of (sum_by dates_of all_flights) (length all_flights) (bounded all_flights)
      number_of_flights

-- a number that fits is not capped
pub fits : (n total : ℕ) → n ≡ total → total < 2 ^ 64 → capped n ≡ total
fits n total is small = omega arith

-- ---- what is printed

pub fates_counted : (test : Fate → Bool) → test Absent ≡ false → (rows : List Row)
    (wanted : TimeMode) (days : FlightNumber → Days)
    → capped (all_dates test (fates_of rows wanted days)) ≡ flight_dates_with test rows wanted days
fates_counted test absent rows wanted days =
    fits (all_dates test (fates_of rows wanted days)) (flight_dates_with test rows wanted days)
    (flights_dates test days (flight_fate rows wanted days)
    (λ f. dates_with test rows wanted (days f))
    (λ f. fate_dates test absent rows wanted (days f))
    (λ f none. no_fates test absent rows wanted (days f) (no_pieces (days f) none)) all_flights)
    (few (λ f n. test (fate_on rows wanted (days f) n)))

unchanged : {A : Type 0} (xs : List A) → map (λ x. x) xs ≡ xs
unchanged [] = refl
unchanged {A} (x ∷ xs) = ap (λ (later : List A). x ∷ later) (unchanged xs)

pub flown_counted : (days : FlightNumber → Days)
    → capped (all_dates any_legs (divided_flights days)) ≡ flight_dates days
flown_counted days =
    fits (all_dates any_legs (divided_flights days)) (flight_dates days)
    (ap (all_dates any_legs) (sym (unchanged (divided_flights days)))
    ∙ flights_dates any_legs days (λ flight. flight) (λ f. flown_on (days f))
    (λ f. leg_dates (days f)) (λ f none. no_legs (days f) (no_pieces (days f) none)) all_flights)
    (few (λ f n. flies_with (on_day (days f) n)))

-- ---- one more

-- a sum so far and a number more
pub one_more : (before more after a b total : ℕ) → before ≡ capped a → more ≡ capped b
    → after ≡ capped (before + more) → total ≡ a + b → after ≡ capped total
one_more before more after a b total is added sum all = omega arith

-- a number more that was not capped
pub one_added : (before more after a b total : ℕ) → before ≡ capped a → more ≡ b
    → after ≡ capped (before + more) → total ≡ a + b → after ≡ capped total
one_added before more after a b total is added sum all = omega arith

-- the dates of one piece more
pub next_piece : {V : Type 0} (test : V → Bool) (ps : List (DayRange × V)) (i : ℕ)
    (piece : DayRange × V) → i < length ps → piece ≡ get_or ps i piece
    → dates_in test (take (i + 1) ps) ≡ dates_in test (take i ps) + days_if test piece
next_piece {V} test ps i piece within is =
    sum_by_more (days_if test) ps i piece within
    ∙ ap (λ (p : DayRange × V). dates_in test (take i ps) + days_if test p) (sym is)

-- the dates of one flight more
pub next_flight : {V : Type 0} (test : V → Bool)
    (flights : List (FlightNumber × List (DayRange × V))) (i : ℕ)
    (flight : FlightNumber × List (DayRange × V)) → i < length flights
    → flight ≡ get_or flights i flight
    → all_dates test (take (i + 1) flights)
    ≡ all_dates test (take i flights) + dates_in test flight.1
next_flight {V} test flights i flight within is =
    sum_by_more (λ (f : FlightNumber × List (DayRange × V)). dates_in test f.1) flights i flight within
    ∙ ap (λ (f : FlightNumber × List (DayRange × V)). all_dates test (take i flights)
    + dates_in test f.1) (sym is)
