-- The flights of a timetable with their pieces have its totals: flight by flight, those that fly on no
-- date have no piece.
use Rattle.std.proofs.Common.{◌≡◌, ◌∙◌, ℕ, ◌+◌, ◌*◌, ◌^◌, ◌≤◌, ◌<◌, Bool, true, false, ◌||◌, cond}
use Rattle.std.proofs.Common.{if◌then◌else◌, nat_lt, fold, filter, List, [], ◌∷◌, length, map, Option, None}
use Rattle.std.proofs.Common.{refl, sym, ap, ap₂, subst, arith}
use Rattle.std.specs.List.{count_by, list_any, sum_by}
use Rattle.std.proofs.lemmas.Bool.Decides.{nat_tests}
use Rattle.std.proofs.lemmas.List.FromFn.{length-range_with_len, length-map-range_with_len}
use Rattle.std.proofs.lemmas.List.Sums.{count_by-le-length, sum_by-cons}
use Rattle.ssim_values.specs.Flight.{FlightNumber}
use Rattle.ssim_periods.specs.Calendar.{day_count, holds}
use Rattle.ssim_periods.specs.Days.{each_day}
use Rattle.ssim_periods.proofs.DayLemmas.{day_count-is, length-each_day}
use Rattle.ssim_periods.proofs.PieceLaw.{Every}
use Rattle.ssim_base.specs.Export.{Piece, all_flights, flight_at, flight_count, pieces}
use Rattle.ssim_base.specs.Timetable.{Days, Legs}
use Rattle.ssim_schedule.specs.FlightPieces.{Divided, divided, divided_flights}
use Rattle.ssim_schedule.specs.FlightPieces as shown
use Rattle.ssim_overview.specs.Totals.{LegsOn, calendar, date_count, date_total, first_and_last, flies}
use Rattle.ssim_overview.specs.Totals.{all_stations, flight_total, has_legs, is_flown, is_served, serves}
use Rattle.ssim_overview.specs.Totals.{station_total}
use Rattle.ssim_overview.specs.internal.Totals.{dates_of_flights, dates_of_pieces, ends_of_flights}
use Rattle.ssim_overview.specs.internal.Totals.{is_in_flights, is_in_pieces, widened_by}
use Rattle.ssim_overview.proofs.FlownDates.{Ended, any_at, any_piece, dates_counted, is_held, pieces_ended}
use Rattle.ssim_overview.proofs.FlownEnds.{Spans, any_none, spans_found, spans_pieces}
use Rattle.ssim_overview.proofs.FlownEnds.{spans_same}
use Rattle.ssim_overview.proofs.Tests.{or_assoc, or_false, or_left}

-- the days of a timetable
abbrev pub days_by : LegsOn → FlightNumber → Days
days_by legs_on flight = each_day (legs_on flight)

abbrev pub one : LegsOn → FlightNumber → Divided
one legs_on flight = divided (days_by legs_on) flight

-- the flights with pieces among some flights
abbrev pub flown : LegsOn → List FlightNumber → List Divided
flown legs_on flights = filter shown.flies (map (divided (days_by legs_on)) flights)

no_element : {A : Type 0} (xs : List A) → nat_lt 0 (length xs) ≡ false → xs ≡ []
no_element [] e = refl
no_element (x ∷ xs) e = let bad : 0 < length (x ∷ xs) = omega arith in absurd (grind (arith, nat_tests))

pub no_pieces : (legs_on : LegsOn) (flight : FlightNumber) → shown.flies (one legs_on flight) ≡ false
    → pieces (days_by legs_on flight) ≡ []
no_pieces legs_on flight e = no_element (pieces (days_by legs_on flight)) e

-- ---- how many flights fly

-- there is a piece exactly if there is a date
flies_too : (legs_on : ℕ → Legs) (ps : List Piece) → ps ≡ pieces (each_day legs_on)
    → Every (λ (piece : Piece). Ended 36525 piece.0) ps
    → nat_lt 0 (length ps) ≡ flies legs_on
flies_too legs_on [] is e =
    let count = day_count-is in
    sym (any_none (λ n. has_legs (legs_on n)) 0 day_count (λ n l.
    sym (is_held legs_on n (omega arith)) ∙ ap (list_any (λ (piece : Piece). holds piece.0 n)) (sym is)))
flies_too legs_on (p ∷ ps) is e =
    let count = day_count-is in
    let low = e.0.0 in let high = e.0.1 in
    let lt : p.0.first < 36525 = omega arith in
    let held : list_any (λ (piece : Piece). holds piece.0 p.0.first) (p ∷ ps) ≡ true =
    or_left (holds p.0 p.0.first) (list_any (λ (piece : Piece). holds piece.0 p.0.first) ps) e.0.2 in
    let some : has_legs (legs_on p.0.first) ≡ true =
    sym (is_held legs_on p.0.first lt) ∙ ap (list_any (λ (piece : Piece). holds piece.0 p.0.first)) (sym is)
    ∙ held in
    let more : nat_lt 0 (length (p ∷ ps)) ≡ true = grind (arith, nat_tests) in
    more ∙ sym (any_at (λ n. has_legs (legs_on n)) 0 day_count p.0.first (omega arith) (omega arith) some)

ended : (legs_on : ℕ → Legs) → Every (λ (piece : Piece). Ended 36525 piece.0) (pieces (each_day legs_on))
ended legs_on = subst (λ (n : ℕ). Every (λ (piece : Piece). Ended n piece.0) (pieces (each_day legs_on)))
    (length-each_day legs_on) (pieces_ended (each_day legs_on))

flies_is : (legs_on : LegsOn) (flight : FlightNumber)
    → shown.flies (one legs_on flight) ≡ flies (legs_on flight)
flies_is legs_on flight =
    flies_too (legs_on flight) (pieces (days_by legs_on flight)) refl (ended (legs_on flight))

flights_counted : (legs_on : LegsOn) (flights : List FlightNumber)
    → length (flown legs_on flights) ≡ count_by (λ flight. flies (legs_on flight)) flights
flights_counted legs_on [] = refl
flights_counted legs_on (flight ∷ flights) =
    by (shown.flies (one legs_on flight)) (flights_counted legs_on flights)
    ∙ ap (λ (b : Bool). cond b 1 0 + count_by (λ f. flies (legs_on f)) flights) (flies_is legs_on flight)
    ∙ sym (sum_by-cons (λ (f : FlightNumber). cond (flies (legs_on f)) 1 0) flight flights)
  where
    by : (b : Bool) → length (flown legs_on flights) ≡ count_by (λ f. flies (legs_on f)) flights
        → length (if b then one legs_on flight ∷ flown legs_on flights else flown legs_on flights)
        ≡ cond b 1 0 + count_by (λ f. flies (legs_on f)) flights
    by true rest = omega arith
    by false rest = omega arith

-- ---- dates

dates_total : (legs_on : LegsOn) (flights : List FlightNumber)
    → dates_of_flights (flown legs_on flights)
    ≡ sum_by (λ flight. date_count (legs_on flight)) flights
dates_total legs_on [] = refl
dates_total legs_on (flight ∷ flights) =
    by (shown.flies (one legs_on flight)) refl (dates_total legs_on flights)
    ∙ sym (sum_by-cons (λ (f : FlightNumber). date_count (legs_on f)) flight flights)
  where
    later : List Divided
    later = flown legs_on flights

    total : ℕ
    total = sum_by (λ (f : FlightNumber). date_count (legs_on f)) flights

    here : (b : Bool) → shown.flies (one legs_on flight) ≡ b
        → dates_of_flights (if shown.flies (one legs_on flight) then one legs_on flight ∷ later else later)
        ≡ dates_of_flights (if b then one legs_on flight ∷ later else later)
    here b e = ap (λ (t : Bool). dates_of_flights (if t then one legs_on flight ∷ later else later)) e

    by : (b : Bool) → shown.flies (one legs_on flight) ≡ b → dates_of_flights later ≡ total
        → dates_of_flights (if shown.flies (one legs_on flight) then one legs_on flight ∷ later else later)
        ≡ date_count (legs_on flight) + total
    by true e rest =
        here true e ∙ sum_by-cons (λ (d : Divided). dates_of_pieces d.1) (one legs_on flight) later
        ∙ ap₂ (λ (x y : ℕ). x + y) (dates_counted (legs_on flight)) rest
    by false e rest =
        let none : date_count (legs_on flight) ≡ 0 =
        sym (dates_counted (legs_on flight)) ∙ ap dates_of_pieces (no_pieces legs_on flight e) in
        let same : dates_of_flights (if shown.flies (one legs_on flight) then one legs_on flight ∷ later else later) ≡ total = here false e ∙ rest in
        omega arith

-- the greatest number of dates
few_dates : (legs_on : ℕ → Legs) → date_count legs_on ≤ 36525
few_dates legs_on =
    let most = count_by-le-length (λ n. has_legs (legs_on n)) calendar in
    let days = length-range_with_len 0 day_count in
    let count = day_count-is in
    omega arith

bounded : (legs_on : LegsOn) (flights : List FlightNumber)
    → sum_by (λ flight. date_count (legs_on flight)) flights ≤ length flights * 36525
bounded legs_on [] = omega arith
bounded legs_on (flight ∷ flights) =
    let first = few_dates (legs_on flight) in
    let later = bounded legs_on flights in
    let all = sum_by-cons (λ (f : FlightNumber). date_count (legs_on f)) flight flights in
    omega arith

few_of : (total flights : ℕ) → total ≤ flights * 36525 → flights ≡ 270000 → total < 2 ^ 64
few_of total flights h is = omega arith

number_of_flights : length all_flights ≡ 270000
unfolding flight_count
number_of_flights = length-map-range_with_len flight_at 0 270000

few : (legs_on : LegsOn) → date_total legs_on < 2 ^ 64
few legs_on = few_of (date_total legs_on) (length all_flights) (bounded legs_on all_flights) number_of_flights

-- ---- the first and the last date

ends_flown : (legs_on : LegsOn) (flights : List FlightNumber) (test : ℕ → Bool) (ends : Option (ℕ × ℕ))
    → Spans test ends
    → Spans (λ n. test n || list_any (λ flight. has_legs (legs_on flight n)) flights)
    (fold (λ so_far flight. widened_by so_far flight.1) ends (flown legs_on flights))
ends_flown legs_on [] test ends s =
    spans_same test (λ n. test n || false) ends (λ n lt. or_false (test n)) s
ends_flown legs_on (flight ∷ flights) test ends s =
    by (ends_flown legs_on flights) (shown.flies (one legs_on flight)) refl
  where
    here : ℕ → Bool
    here n = has_legs (legs_on flight n)

    rest : ℕ → Bool
    rest n = list_any (λ (f : FlightNumber). has_legs (legs_on f n)) flights

    fold_on : Option (ℕ × ℕ) → List Divided → Option (ℕ × ℕ)
    fold_on = fold (λ so_far d. widened_by so_far d.1)

    own : List Piece
    own = pieces (days_by legs_on flight)

    with_own : Spans (λ n. test n || here n) (widened_by ends own)
    with_own = spans_same (λ n. test n || list_any (λ (piece : Piece). holds piece.0 n) own)
        (λ n. test n || here n) (widened_by ends own)
        (λ n lt. ap (λ (b : Bool). test n || b) (is_held (legs_on flight) n lt))
        (spans_pieces own test ends (ended (legs_on flight)) s)

    quiet : shown.flies (one legs_on flight) ≡ false → (n : ℕ) → n < 36525 → here n ≡ false
    quiet e n lt = sym (is_held (legs_on flight) n lt)
        ∙ ap (list_any (λ (piece : Piece). holds piece.0 n)) (no_pieces legs_on flight e)

    by : ((t : ℕ → Bool) (o : Option (ℕ × ℕ)) → Spans t o
        → Spans (λ n. t n || rest n) (fold_on o (flown legs_on flights)))
        → (b : Bool) → shown.flies (one legs_on flight) ≡ b
        → Spans (λ n. test n || (here n || rest n))
        (fold_on ends (if shown.flies (one legs_on flight) then one legs_on flight ∷ flown legs_on flights else flown legs_on flights))
    by later true e = subst (λ (b : Bool). Spans (λ n. test n || (here n || rest n))
        (fold_on ends (if b then one legs_on flight ∷ flown legs_on flights else flown legs_on flights))) (sym e)
        (spans_same (λ n. (test n || here n) || rest n) (λ n. test n || (here n || rest n))
        (fold_on (widened_by ends own) (flown legs_on flights))
        (λ n lt. or_assoc (test n) (here n) (rest n))
        (later (λ n. test n || here n) (widened_by ends own) with_own))
    by later false e = subst (λ (b : Bool). Spans (λ n. test n || (here n || rest n))
        (fold_on ends (if b then one legs_on flight ∷ flown legs_on flights else flown legs_on flights))) (sym e)
        (spans_same (λ n. test n || rest n) (λ n. test n || (here n || rest n))
        (fold_on ends (flown legs_on flights))
        (λ n lt. ap (λ (b : Bool). test n || (b || rest n)) (sym (quiet e n lt)))
        (later test ends s))

-- ---- stations

stations_flown : (legs_on : LegsOn) (station : List ℕ) (flights : List FlightNumber)
    → is_in_flights (flown legs_on flights) station
    ≡ list_any (λ flight. list_any (λ n. serves station (legs_on flight n)) calendar) flights
stations_flown legs_on station [] = refl
stations_flown legs_on station (flight ∷ flights) =
    by (stations_flown legs_on station flights) (shown.flies (one legs_on flight)) refl
  where
    own : Bool
    own = list_any (λ n. serves station (legs_on flight n)) calendar

    rest : Bool
    rest = list_any (λ (f : FlightNumber). list_any (λ n. serves station (legs_on f n)) calendar) flights

    is : is_in_pieces (pieces (days_by legs_on flight)) station ≡ own
    is = any_piece (serves station) refl (legs_on flight)

    here : (b : Bool) → shown.flies (one legs_on flight) ≡ b
        → is_in_flights (if shown.flies (one legs_on flight) then one legs_on flight ∷ flown legs_on flights else flown legs_on flights) station
        ≡ is_in_flights (if b then one legs_on flight ∷ flown legs_on flights else flown legs_on flights) station
    here b e = ap (λ (t : Bool). is_in_flights (if t then one legs_on flight ∷ flown legs_on flights else flown legs_on flights) station) e

    by : is_in_flights (flown legs_on flights) station ≡ rest → (b : Bool)
        → shown.flies (one legs_on flight) ≡ b
        → is_in_flights (if shown.flies (one legs_on flight) then one legs_on flight ∷ flown legs_on flights else flown legs_on flights) station
        ≡ (own || rest)
    by same true e = here true e ∙ ap₂ (λ (x y : Bool). x || y) is same
    by same false e = here false e ∙ same ∙ ap (λ (b : Bool). b || rest)
        (sym (ap (λ (ps : List Piece). is_in_pieces ps station) (no_pieces legs_on flight e)) ∙ is)

count_same : (test other : List ℕ → Bool) (stations : List (List ℕ)) → ((s : List ℕ) → test s ≡ other s)
    → count_by test stations ≡ count_by other stations
count_same test other [] h = refl
count_same test other (s ∷ stations) h =
    sum_by-cons (λ (t : List ℕ). cond (test t) 1 0) s stations
    ∙ ap₂ (λ (x y : ℕ). x + y) (ap (λ (b : Bool). cond b 1 0) (h s)) (count_same test other stations h)
    ∙ sym (sum_by-cons (λ (t : List ℕ). cond (other t) 1 0) s stations)

-- ---- all together

module _ (legs_on : LegsOn) (flights : List Divided) (are : flights ≡ divided_flights (days_by legs_on)) where
  pub all_flights_counted : length flights ≡ flight_total legs_on
  all_flights_counted = ap length are ∙ flights_counted legs_on all_flights

  dates_are : dates_of_flights flights ≡ date_total legs_on
  dates_are = ap dates_of_flights are ∙ dates_total legs_on all_flights

  pub all_dates_counted : (count : ℕ) → (dates_of_flights flights < 2 ^ 64 → count ≡ dates_of_flights flights)
      → count ≡ date_total legs_on
  all_dates_counted count is =
      is (subst (λ (n : ℕ). n < 2 ^ 64) (sym dates_are) (few legs_on)) ∙ dates_are

  pub all_ends : ends_of_flights flights ≡ first_and_last legs_on
  all_ends = ap ends_of_flights are
      ∙ spans_found (is_flown legs_on) (ends_of_flights (divided_flights (days_by legs_on)))
      (ends_flown legs_on all_flights (λ n. false) None (λ n lt. refl))

  pub all_stations_counted : count_by (is_in_flights flights) all_stations ≡ station_total legs_on
  all_stations_counted =
      count_same (is_in_flights flights) (is_served legs_on) all_stations
      (λ s. ap (λ (ds : List Divided). is_in_flights ds s) are ∙ stations_flown legs_on s all_flights)
