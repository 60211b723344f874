-- The dates on which flights differ are those of their pieces, counted: each date that differs is in
-- exactly one piece.
use Rattle.std.proofs.Common.{◌≡◌, ◌∙◌, ℕ, zero, suc, ◌+◌, ◌*◌, ◌^◌, ◌<◌, ◌≤◌, Bool, cond, true, false}
use Rattle.std.proofs.Common.{min, ◌&&◌, nat_eq, if◌then◌else◌, List, [], ◌∷◌, filter, length, map}
use Rattle.std.proofs.Common.{refl, sym, ap, ap₂, arith}
use Rattle.std.specs.List.{count_by, range_with_len, sum_by}
use Rattle.std.proofs.lemmas.List.FromFn.{length-range_with_len, length-map-range_with_len}
use Rattle.std.proofs.lemmas.List.Sums.{count_by-le-length, sum_by-cons}
use Rattle.ssim_values.specs.Flight.{FlightNumber}
use Rattle.ssim_periods.specs.Calendar.{day_count, holds}
use Rattle.ssim_periods.specs.Days.{count_on}
use Rattle.ssim_periods.specs.Pieces.{held_on}
use Rattle.ssim_periods.proofs.DayLemmas.{day_count-is}
use Rattle.ssim_base.specs.Export.{all_flights, flight_at, flight_count}
use Rattle.ssim_base.specs.Timetable.{Days, on_day}
use Rattle.ssim_difference.specs.Differences.{Compared, DifferencePiece, compared, date_count}
use Rattle.ssim_difference.specs.Differences.{difference_pieces, differences, differing_dates}
use Rattle.ssim_difference.specs.Differences.{differs, differs_on, pair}
use Rattle.ssim_difference.specs.declared.difference.Difference.{Difference}
use Rattle.ssim_difference.specs.internal.Counted.{all_dates, dates_in}
use Rattle.ssim_difference.proofs.Listed.{no_element}
use Rattle.ssim_difference.proofs.Pieces.{hold_differences}

-- ---- sums over days

abbrev over : (ℕ → ℕ) → ℕ → ℕ → ℕ
over f a k = sum_by f (range_with_len a k)

over_none : (a k : ℕ) → over (λ n. 0) a k ≡ 0
over_none a zero = refl
over_none a (suc k) =
    let first = sum_by-cons (λ (n : ℕ). 0) a (range_with_len (a + 1) k) in
    let rest = over_none (a + 1) k in
    omega arith

over_both : (f g : ℕ → ℕ) (a k : ℕ) → over (λ n. f n + g n) a k ≡ over f a k + over g a k
over_both f g a zero = refl
over_both f g a (suc k) =
    let all = sum_by-cons (λ (n : ℕ). f n + g n) a (range_with_len (a + 1) k) in
    let one = sum_by-cons f a (range_with_len (a + 1) k) in
    let other = sum_by-cons g a (range_with_len (a + 1) k) in
    let rest = over_both f g (a + 1) k in
    omega arith

over_same : (f g : ℕ → ℕ) (a k : ℕ) → ((n : ℕ) → n < a + k → f n ≡ g n) → over f a k ≡ over g a k
over_same f g a zero h = refl
over_same f g a (suc k) h =
    sum_by-cons f a (range_with_len (a + 1) k)
    ∙ ap₂ (λ (x y : ℕ). x + y) (h a (omega arith)) (over_same f g (a + 1) k (λ n l. h n (omega arith)))
    ∙ sym (sum_by-cons g a (range_with_len (a + 1) k))

-- ---- the days of a period

-- the days that a change counts, if all are of its class 0, are those of the period
pub counted : (is_in : ℕ → Bool) (d : Difference) (a k : ℕ)
    → count_on is_in (λ _. 0) 0 a (map (λ n. d) (range_with_len a k))
    ≡ count_by is_in (range_with_len a k)
counted is_in d a zero = refl
counted is_in d a (suc k) =
    ap₂ (λ (x y : ℕ). x + y) (one (is_in a)) (counted is_in d (a + 1) k)
    ∙ sym (sum_by-cons (λ (n : ℕ). cond (is_in n) 1 0) a (range_with_len (a + 1) k))
  where
    one : (b : Bool) → ◌≡◌ {A = ℕ} (if b && nat_eq 0 0 then 1 else 0) (cond b 1 0)
    one true = refl
    one false = refl

-- ---- the dates of pieces

held_more : (piece : DifferencePiece) (pieces : List DifferencePiece) (n : ℕ)
    → cond (holds piece.0 n) 1 0 + length (held_on pieces n) ≡ length (held_on (piece ∷ pieces) n)
held_more piece pieces n = by (holds piece.0 n)
  where
    by : (b : Bool)
        → cond b 1 0 + length (held_on pieces n)
        ≡ length (if b then piece.1 ∷ held_on pieces n else held_on pieces n)
    by true = omega arith
    by false = omega arith

-- the days of pieces, piece by piece or day by day
by_day : (pieces : List DifferencePiece) (a k : ℕ)
    → sum_by (λ piece. count_by (holds piece.0) (range_with_len a k)) pieces
    ≡ over (λ n. length (held_on pieces n)) a k
by_day [] a k = sym (over_none a k)
by_day (piece ∷ pieces) a k =
    sum_by-cons (λ (p : DifferencePiece). count_by (holds p.0) (range_with_len a k)) piece pieces
    ∙ ap (λ (m : ℕ). count_by (holds piece.0) (range_with_len a k) + m) (by_day pieces a k)
    ∙ sym (over_both (λ n. cond (holds piece.0 n) 1 0) (λ n. length (held_on pieces n)) a k)
    ∙ over_same (λ n. cond (holds piece.0 n) 1 0 + length (held_on pieces n))
    (λ n. length (held_on (piece ∷ pieces) n)) a k (λ n l. held_more piece pieces n)

one_if : (b : Bool) (d : Difference) → length (if b then d ∷ [] else []) ≡ cond b 1 0
one_if true d = refl
one_if false d = refl

-- the days of the pieces of a flight's differences are the dates on which it differs
pub flight_dates : (old new : Days) → dates_in (difference_pieces old new) ≡ differing_dates old new
flight_dates old new =
    by_day (difference_pieces old new) 0 day_count
    ∙ over_same (λ n. length (held_on (difference_pieces old new) n))
    (λ n. cond (differs_on old new n) 1 0) 0 day_count
    (λ n l. ap length (hold_differences old new n (omega arith))
    ∙ one_if (differs_on old new n) (pair (on_day old n) (on_day new n)))

-- the same of all flights
flights_dates : (old new : FlightNumber → Days) (flights : List FlightNumber)
    → all_dates (filter differs (map (compared old new) flights))
    ≡ sum_by (λ flight. differing_dates (old flight) (new flight)) flights
flights_dates old new [] = refl
flights_dates old new (flight ∷ flights) =
    by (differs first) refl (flights_dates old new flights)
    ∙ sym (sum_by-cons (λ (f : FlightNumber). differing_dates (old f) (new f)) flight flights)
  where
    first : Compared
    first = compared old new flight

    later : List Compared
    later = filter differs (map (compared old new) flights)

    total : ℕ
    total = sum_by (λ (f : FlightNumber). differing_dates (old f) (new f)) flights

    here : (b : Bool) → differs first ≡ b
        → all_dates (if differs first then first ∷ later else later)
        ≡ all_dates (if b then first ∷ later else later)
    here b e = ap (λ (t : Bool). all_dates (if t then first ∷ later else later)) e

    by : (b : Bool) → differs first ≡ b → all_dates later ≡ total
        → all_dates (if differs first then first ∷ later else later)
        ≡ differing_dates (old flight) (new flight) + total
    by true e rest =
        here true e ∙ sum_by-cons (λ (c : Compared). dates_in c.1) first later
        ∙ ap₂ (λ (x y : ℕ). x + y) (flight_dates (old flight) (new flight)) rest
    by false e rest =
        let none : differing_dates (old flight) (new flight) ≡ 0 =
        sym (flight_dates (old flight) (new flight))
        ∙ ap dates_in (no_element (difference_pieces (old flight) (new flight)) e) in
        let same : all_dates (if differs first then first ∷ later else later) ≡ total = here false e
        ∙ rest in
        omega arith

pub all_counted : (old new : FlightNumber → Days)
    → all_dates (differences old new) ≡ date_count old new
all_counted old new = flights_dates old new all_flights

-- ---- the greatest number of dates

few_dates : (old new : Days) → differing_dates old new ≤ 36525
few_dates old new =
    let most = count_by-le-length (differs_on old new) (range_with_len 0 day_count) in
    let days = length-range_with_len 0 day_count in
    let count = day_count-is in
    omega arith

bounded : (old new : FlightNumber → Days) (flights : List FlightNumber)
    → sum_by (λ flight. differing_dates (old flight) (new flight)) flights ≤ length flights * 36525
bounded old new [] = omega arith
bounded old new (flight ∷ flights) =
    let first = few_dates (old flight) (new flight) in
    let later = bounded old new flights in
    let all = sum_by-cons (λ (f : FlightNumber). differing_dates (old f) (new f)) flight flights in
    omega arith

few_of : (total flights : ℕ) → total ≤ flights * 36525 → flights ≡ 270000 → total < 2 ^ 64
few_of total flights h is = omega arith

number_of_flights : length all_flights ≡ 270000
unfolding flight_count
number_of_flights = length-map-range_with_len flight_at 0 270000

pub few : (old new : FlightNumber → Days) → date_count old new < 2 ^ 64
few old new = few_of (date_count old new) (length all_flights)
    (bounded old new all_flights) number_of_flights

-- ---- sums that fit

-- a sum so far and a number more, if the whole fits
pub saturated : (count n result so_far m total : ℕ) → (so_far < 2 ^ 64 → count ≡ so_far) → n ≡ m
    → result ≡ min (count + n) 18446744073709551615
    → total ≡ so_far + m → total < 2 ^ 64 → result ≡ total
saturated count n result so_far m total before is added more fits =
    let so : count ≡ so_far = before (omega arith) in
    omega arith

-- the same with a number that is known if it fits
pub saturated_if : (count n result so_far m total : ℕ) → (so_far < 2 ^ 64 → count ≡ so_far)
    → (m < 2 ^ 64 → n ≡ m) → result ≡ min (count + n) 18446744073709551615
    → total ≡ so_far + m → total < 2 ^ 64 → result ≡ total
saturated_if count n result so_far m total before is added more fits =
    saturated count n result so_far m total before (is (omega arith)) added more fits
