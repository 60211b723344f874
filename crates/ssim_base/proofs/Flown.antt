-- Flights without a flown day add nothing: the ranks of the flown flights rise through the range of
-- all ranks.
use Rattle.std.proofs.Common.{◌≡◌, ℕ, zero, suc, ◌+◌, ◌<◌, ◌≤◌, Bool, true, false, ◌||◌, nat_eq, if◌then◌else◌, List, [], ◌∷◌, ◌++◌, map, length, refl, sym, ap, ◌∙◌, arith}
use Rattle.std.proofs.lemmas.Bool.Decides.{nat_tests}
use Rattle.std.specs.List.{flat_map, list_any}
use Rattle.ssim_values.specs.Flight.{FlightNumber}
use Rattle.ssim_records.specs.declared.record.Record.{Record}
use Rattle.ssim_base.specs.Timetable.{Days, same_flight, on_day}
use Rattle.ssim_base.specs.Export.{same_itinerary, pieces, pieces_records, flight_records}
use Rattle.ssim_base.specs.Export.{flights_records, flight_count, flight_at, all_flights, sections}
use Rattle.ssim_base.specs.Export.{export_unless_refused, export_refusal}
use Rattle.ssim_base.specs.ReadBack as law
use Rattle.ssim_base.specs.ReadBack.{place_of}
use Rattle.ssim_base.proofs.ExportLaws.{FlownSuffice}
use Rattle.ssim_periods.specs.Pieces.{values_of, pieces_with, sort_by_first}
use Rattle.ssim_base.proofs.Places.{flight-is, flight-place, place-below, same-places}
use Rattle.ssim_base.proofs.Parts.{flights_from}
use Rattle.ssim_base.proofs.Whole.{refusal_after}

-- ranks that rise from `low` to below `end`
abbrev Rise : ℕ → ℕ → List ℕ → Type 0
Rise low end [] = Unit {0}
Rise low end (i ∷ is) = (low ≤ i) × (i < end) × Rise (i + 1) end is

-- a flight with a rank from `low` to below `end` that is not in the list has no piece
abbrev NoOther : (FlightNumber → Days) → ℕ → ℕ → List ℕ → Type 0
NoOther days low end is = (j : ℕ) → low ≤ j → j < end → list_any (nat_eq j) is ≡ false → pieces (days (flight_at j)) ≡ []

absent : (low end j : ℕ) (is : List ℕ) → Rise low end is → j < low → list_any (nat_eq j) is ≡ false
absent low end j [] rise less = refl
absent low end j (i ∷ is) rise less =
    let from : low ≤ i = rise.0 in
    let other : nat_eq j i ≡ false = grind (arith, nat_tests) in
    rw (other, absent (i + 1) end j is rise.2 (omega arith)) refl

lower : (low f end : ℕ) (is : List ℕ) → f ≤ low → Rise low end is → Rise f end is
lower low f end [] le rise = tt
lower low f end (x ∷ is) le rise = (let from : low ≤ x = rise.0 in omega arith, rise.1, rise.2)

records-of_some : (a : List ℕ) (days : FlightNumber → Days) (low k end : ℕ) (is : List ℕ) → end ≡ low + k → Rise low end is → NoOther days low end is
    → flights_records a days (flights_from low k) ≡ flights_records a days (map flight_at is)
records-of_some a days low zero end [] len rise none = refl
records-of_some a days low zero end (i ∷ is) len rise none = let from : low ≤ i = rise.0 in let to : i < end = rise.1 in absurd (omega arith)
records-of_some a days low (suc k) end [] len rise none =
    ap (λ ps. pieces_records a (flight_at low) 1 ps ++ flights_records a days (flights_from (low + 1) k)) (none low (omega arith) (omega arith) refl)
    ∙ records-of_some a days (low + 1) k end [] (omega arith) tt (λ j from to out. none j (omega arith) to out)
records-of_some a days low (suc k) end (i ∷ is) len rise none = by (nat_eq low i) refl
    (λ same. records-of_some a days (low + 1) k end is (omega arith) (lower (i + 1) (low + 1) end is (omega arith) rise.2)
    (λ j from to out. let other : nat_eq j i ≡ false = grind (arith, nat_tests) in none j (omega arith) to (rw (other, out) refl)))
    (λ less. records-of_some a days (low + 1) k end (i ∷ is) (omega arith) (less, rise.1, rise.2) (λ j from to out. none j (omega arith) to out))
  where
    next : List Record
    next = flights_records a days (flights_from (low + 1) k)

    by : (b : Bool) → nat_eq low i ≡ b
        → (low ≡ i → next ≡ flights_records a days (map flight_at is))
        → (low + 1 ≤ i → next ≡ flights_records a days (map flight_at (i ∷ is)))
        → flights_records a days (flights_from low (suc k)) ≡ flights_records a days (map flight_at (i ∷ is))
    by true e here later =
        let same : low ≡ i = grind (arith, nat_tests) in
        ap (λ x. flight_records a days (flight_at x) ++ next) same ∙ ap (λ rs. flight_records a days (flight_at i) ++ rs) (here same)
    by false e here later =
        let from : low ≤ i = rise.0 in
        let less : low + 1 ≤ i = grind (arith, nat_tests) in
        ap (λ ps. pieces_records a (flight_at low) 1 ps ++ next) (none low (omega arith) (omega arith) (absent (low + 1) end low (i ∷ is) (less, rise.1, rise.2) (omega arith)))
        ∙ later less

-- the first refusal is the same for the flights of the list and for all flights
refusal-of_some : (a : List ℕ) (days : FlightNumber → Days) (count low k end : ℕ) (is : List ℕ) → end ≡ low + k → Rise low end is → NoOther days low end is
    → export_refusal a days count (flights_from low k) ≡ export_refusal a days count (map flight_at is)
refusal-of_some a days count low zero end [] len rise none = refl
refusal-of_some a days count low zero end (i ∷ is) len rise none = let from : low ≤ i = rise.0 in let to : i < end = rise.1 in absurd (omega arith)
refusal-of_some a days count low (suc k) end [] len rise none =
    ap (λ ps. refusal_after a count (flight_at low) ps (λ n. export_refusal a days n (flights_from (low + 1) k))) (none low (omega arith) (omega arith) refl)
    ∙ (let same : count + 0 ≡ count = omega arith in ap (λ n. export_refusal a days n (flights_from (low + 1) k)) same)
    ∙ refusal-of_some a days count (low + 1) k end [] (omega arith) tt (λ j from to out. none j (omega arith) to out)
refusal-of_some a days count low (suc k) end (i ∷ is) len rise none = by (nat_eq low i) refl
    (λ same n. refusal-of_some a days n (low + 1) k end is (omega arith) (lower (i + 1) (low + 1) end is (omega arith) rise.2)
    (λ j from to out. let other : nat_eq j i ≡ false = grind (arith, nat_tests) in none j (omega arith) to (rw (other, out) refl)))
    (λ less. refusal-of_some a days count (low + 1) k end (i ∷ is) (omega arith) (less, rise.1, rise.2) (λ j from to out. none j (omega arith) to out))
  where
    by : (b : Bool) → nat_eq low i ≡ b
        → (low ≡ i → (n : ℕ) → export_refusal a days n (flights_from (low + 1) k) ≡ export_refusal a days n (map flight_at is))
        → (low + 1 ≤ i → export_refusal a days count (flights_from (low + 1) k) ≡ export_refusal a days count (map flight_at (i ∷ is)))
        → export_refusal a days count (flights_from low (suc k)) ≡ export_refusal a days count (map flight_at (i ∷ is))
    by true e here later =
        let same : low ≡ i = grind (arith, nat_tests) in
        ap (λ x. refusal_after a count (flight_at x) (pieces (days (flight_at x))) (λ n. export_refusal a days n (flights_from (low + 1) k))) same
        ∙ ap (refusal_after a count (flight_at i) (pieces (days (flight_at i)))) (λ p n. here same n p)
    by false e here later =
        let from : low ≤ i = rise.0 in
        let less : low + 1 ≤ i = grind (arith, nat_tests) in
        ap (λ ps. refusal_after a count (flight_at low) ps (λ n. export_refusal a days n (flights_from (low + 1) k))) (none low (omega arith) (omega arith) (absent (low + 1) end low (i ∷ is) (less, rise.1, rise.2) (omega arith)))
        ∙ (let same : count + 0 ≡ count = omega arith in ap (λ n. export_refusal a days n (flights_from (low + 1) k)) same)
        ∙ later less

-- ---- flights that rise, as the flights at places that rise

at_places : (low : ℕ) (fs : List FlightNumber) → law.Rise low fs → fs ≡ map flight_at (map place_of fs)
at_places low [] rise = refl
at_places low (f ∷ fs) rise = ap (λ g. g ∷ fs) (sym (flight-place f rise.1)) ∙ ap (λ gs. flight_at (place_of f) ∷ gs) (at_places (place_of f + 1) fs rise.2)

rising : (low : ℕ) (fs : List FlightNumber) → law.Rise low fs → Rise low flight_count (map place_of fs)
rising low [] rise = tt
rising low (f ∷ fs) rise = (rise.0, place-below f rise.1, rising (place_of f + 1) fs rise.2)

same-any : (low : ℕ) (fs : List FlightNumber) (j : ℕ) → law.Rise low fs → list_any (same_flight (flight_at j)) fs ≡ list_any (nat_eq j) (map place_of fs)
same-any low [] j rise = refl
same-any low (f ∷ fs) j rise =
    ap (λ g. same_flight (flight_at j) g || list_any (same_flight (flight_at j)) fs) (sym (flight-place f rise.1))
    ∙ ap (λ b. b || list_any (same_flight (flight_at j)) fs) (same-places j (place_of f))
    ∙ ap (λ b. nat_eq j (place_of f) || b) (same-any (place_of f + 1) fs j rise.2)

pub flown_suffice : FlownSuffice
flown_suffice frame days fs rise none =
    let a = frame.carrier.airline in
    let is = map place_of fs in
    let none_at : NoOther days 0 flight_count is = λ j from to out. none (flight_at j) (flight-is j to) (same-any 0 fs j rise ∙ out) in
    ap (λ o. export_unless_refused o (sections frame (flights_records a days all_flights))) (refusal-of_some a days 2 0 flight_count flight_count is (omega arith) (rising 0 fs rise) none_at)
    ∙ ap (λ rs. export_unless_refused (export_refusal a days 2 (map flight_at is)) (sections frame rs)) (records-of_some a days 0 flight_count flight_count is (omega arith) (rising 0 fs rise) none_at)
    ∙ ap (λ gs. export_unless_refused (export_refusal a days 2 gs) (sections frame (flights_records a days gs))) (sym (at_places 0 fs rise))

-- ---- flights that are in no map

unflown-values : (days : Days) → ((n : ℕ) → n < length days → on_day days n ≡ []) → values_of same_itinerary [] days ≡ []
unflown-values [] h = refl
unflown-values (v ∷ days) h =
    let others = values_of same_itinerary [] days in
    ap (λ w. if same_itinerary w [] || list_any (same_itinerary w) others then others else w ∷ others) (h 0 (omega arith))
    ∙ unflown-values days (λ n l. h (suc n) (omega arith))

-- a flight with no flown day has no piece
pub unflown : (days : Days) → ((n : ℕ) → n < length days → on_day days n ≡ []) → pieces days ≡ []
unflown days h = ap (λ values. sort_by_first (flat_map (pieces_with same_itinerary days) values)) (unflown-values days h)
