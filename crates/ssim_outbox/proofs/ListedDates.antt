-- Each date on which two timetables differ is in a piece of its flight in the list of differences.
use Rattle.std.proofs.Common.{◌≡◌, ◌∙◌, ℕ, zero, suc, ◌+◌, ◌<◌, ◌≤◌, Bool, true, false, not, ◌&&◌, ◌||◌}
use Rattle.std.proofs.Common.{nat_eq, nat_lt, if◌then◌else◌, List, [], ◌∷◌, filter, length, map}
use Rattle.std.proofs.Common.{refl, sym, ap, subst, arith}
use Rattle.std.specs.List.{list_any, range_with_len}
use Rattle.std.proofs.lemmas.Bool.Decides.{nat_tests}
use Rattle.ssim_values.specs.Flight.{FlightNumber, IsFlight}
use Rattle.ssim_periods.specs.Calendar.{day_count, holds}
use Rattle.ssim_periods.specs.Pieces.{held_on}
use Rattle.ssim_base.proofs.Places.{flight-place, place-below, same-self}
use Rattle.ssim_base.specs.Export.{flight_at, flight_count, same_itinerary}
use Rattle.ssim_base.specs.ReadBack.{place_of}
use Rattle.ssim_base.specs.Timetable.{Days, on_day, same_flight}
use Rattle.ssim_difference.proofs.Pieces.{hold_differences}
use Rattle.ssim_difference.specs.Differences.{Compared, DifferencePiece, compared, difference_pieces}
use Rattle.ssim_difference.specs.Differences.{differences, differs, pair}
use Rattle.ssim_difference.specs.declared.difference.Difference.{Difference}
use Rattle.ssim_outbox.specs.internal.Drafts.{dates_of_flights, dates_of_period, dates_of_pieces}

-- a flight with a rank in a range, if it differs and passes a test
listed_at : (old new : FlightNumber → Days) (test : Compared → Bool) (a count r : ℕ) → a ≤ r
    → r < a + count → differs (compared old new (flight_at r)) ≡ true
    → test (compared old new (flight_at r)) ≡ true
    → list_any test (filter differs (map (compared old new) (map flight_at (range_with_len a count)))) ≡ true
listed_at old new test a zero r low high differ pass = absurd (omega arith)
listed_at old new test a (suc count) r low high differ pass =
    by (nat_eq a r) refl
    (λ next. listed_at old new test (a + 1) count r next (omega arith) differ pass)
  where
    rest : List Compared
    rest = filter differs (map (compared old new) (map flight_at (range_with_len (a + 1) count)))

    first : Compared
    first = compared old new (flight_at a)

    here : (b : Bool) → differs first ≡ b → differs first ≡ true → test first ≡ true
        → list_any test (if b then first ∷ rest else rest) ≡ true
    here true e d t = ap (λ (x : Bool). x || list_any test rest) t
    here false e d t = let bad : true ≡ false = sym d ∙ e in absurd cc

    later : (b : Bool) → list_any test rest ≡ true
        → list_any test (if b then first ∷ rest else rest) ≡ true
    later true h = or_true (test first) h
      where
        or_true : (x : Bool) → list_any test rest ≡ true → (x || list_any test rest) ≡ true
        or_true true e = refl
        or_true false e = e
    later false h = h

    by : (b : Bool) → nat_eq a r ≡ b → (a + 1 ≤ r → list_any test rest ≡ true)
        → list_any test (if differs first then first ∷ rest else rest) ≡ true
    by true e left =
        let same : r ≡ a = grind (arith, nat_tests) in
        here (differs first) refl
        (subst (λ (k : ℕ). differs (compared old new (flight_at k)) ≡ true) same differ)
        (subst (λ (k : ℕ). test (compared old new (flight_at k)) ≡ true) same pass)
    by false e left =
        let other : a + 1 ≤ r = grind (arith, nat_tests) in
        later (differs first) (left other)

-- a piece that holds a day is in the list
held_any : (flight : FlightNumber) (pieces : List DifferencePiece) (n : ℕ) (d : Difference)
    → held_on pieces n ≡ d ∷ [] → dates_of_pieces flight pieces flight n ≡ true
held_any flight [] n d h = absurd cc
held_any flight (piece ∷ pieces) n d h = by (holds piece.0 n) refl (λ rest. held_any flight pieces n d rest)
  where
    by : (b : Bool) → holds piece.0 n ≡ b
        → (held_on pieces n ≡ d ∷ [] → dates_of_pieces flight pieces flight n ≡ true)
        → (dates_of_period flight piece.0 flight n || dates_of_pieces flight pieces flight n) ≡ true
    by true e later = rw (same-self flight, e) refl
    by false e later =
        let others = dates_of_pieces flight pieces flight n in
        ap (λ (b : Bool). (same_flight flight flight && b) || others) e
        ∙ ap (λ (b : Bool). (b && false) || others) (same-self flight)
        ∙ later (sym (ap (λ (b : Bool). if b then piece.1 ∷ held_on pieces n else held_on pieces n) e) ∙ h)

some_pieces : (pieces : List DifferencePiece) (n : ℕ) (d : Difference) → held_on pieces n ≡ d ∷ []
    → nat_lt 0 (length pieces) ≡ true
some_pieces [] n d h = absurd cc
some_pieces (piece ∷ pieces) n d h = grind (arith, nat_tests)

pub differing_listed : (old new : FlightNumber → Days) (g : FlightNumber) (n : ℕ) → IsFlight g
    → n < day_count → same_itinerary (on_day (old g) n) (on_day (new g) n) ≡ false
    → dates_of_flights (differences old new) g n ≡ true
unfolding flight_count
differing_listed old new g n exists within differ =
    let r = place_of g in
    let is : flight_at r ≡ g = flight-place g exists in
    let held : held_on (difference_pieces (old g) (new g)) n
    ≡ pair (on_day (old g) n) (on_day (new g) n) ∷ [] =
    hold_differences (old g) (new g) n within
    ∙ ap (λ (b : Bool). if not b then pair (on_day (old g) n) (on_day (new g) n) ∷ [] else []) differ in
    listed_at old new (λ (c : Compared). dates_of_pieces c.0 c.1 g n) 0 flight_count r (omega arith)
    (place-below g exists)
    (subst (λ (f : FlightNumber). differs (compared old new f) ≡ true) (sym is)
    (some_pieces (difference_pieces (old g) (new g)) n (pair (on_day (old g) n) (on_day (new g) n)) held))
    (subst (λ (f : FlightNumber). dates_of_pieces f (difference_pieces (old f) (new f)) g n ≡ true) (sym is)
    (held_any g (difference_pieces (old g) (new g)) n (pair (on_day (old g) n) (on_day (new g) n)) held))
