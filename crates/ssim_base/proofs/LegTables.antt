-- The flights of a table of leg records: which of them a change concerns, and which have leg
-- records.
use Rattle.std.proofs.Common.{◌≡◌, ◌≢◌, ℕ, zero, suc, ◌+◌, ◌-◌, ◌*◌, ◌/◌, ◌%◌, ◌<◌, ◌≤◌, Bool, true, false, ◌||◌, nat_eq, if◌then◌else◌, List, [], ◌∷◌, ◌++◌, length, reverse, set, slice_get, refl, sym, ap, subst, ◌∙◌, append_assoc, arith}
use Rattle.std.proofs.lemmas.Bool.Decides.{nat_tests}
use Rattle.std.proofs.lemmas.List.{reverse-append}
use Rattle.std.proofs.lemmas.List.Folds.{list_any-append}
use Rattle.std.proofs.lemmas.Option.{slice_get_past}
use Rattle.std.specs.List.{list_any}
use Rattle.std.specs.declared.alloc.Global.{Global}
use Rattle.std.specs.declared.vec.Vec.{Vec}
use Rattle.ssim_values.specs.Flight.{FlightNumber, IsFlight}
use Rattle.ssim_values.specs.Period.{DayRange}
use Rattle.ssim_records.specs.declared.record.Record.{Record}
use Rattle.ssim_base.specs.BaseSeen.{AreFlights, is_leg_of}
use Rattle.ssim_base.specs.Export.{flight_at, flight_count}
use Rattle.ssim_base.specs.internal.LegTable.{AddsLeg, AddsLegAt, entries_of, flights_from, flights_in, flights_left, flights_of, has_legs, legs_at, legs_in}
use Rattle.ssim_base.specs.ReadBack.{Rise, place_of}
use Rattle.ssim_base.specs.Timetable.{same_flight}
use Rattle.ssim_base.specs.declared.leg_table.flight_legs.FlightLegs.{FlightLegs}
use Rattle.ssim_base.specs.declared.leg_table.LegTable.{LegTable}
use Rattle.ssim_base.proofs.LegSequences.{get-set, get-set_other}
use Rattle.ssim_base.proofs.Places.{flight-is, flight-place, place-below, place-flight, same-places}

-- ---- the lists grow

-- one more list without flights changes no look-up
pub flights-push : (numbers : List (Vec FlightLegs Global)) (row : Vec FlightLegs Global) (k : ℕ) → row.items ≡ [] → flights_of (slice_get (numbers ++ row ∷ []) k) ≡ flights_of (slice_get numbers k)
flights-push [] row zero none = none
flights-push [] row (suc k) none = refl
flights-push (x ∷ numbers) row zero none = refl
flights-push (x ∷ numbers) row (suc k) none = flights-push numbers row k none

-- one more flight without leg records changes no look-up
pub legs-push : (flights : List FlightLegs) (flight : FlightLegs) (k : ℕ) → flight.entries.items ≡ [] → legs_in (flights ++ flight ∷ []) k ≡ legs_in flights k
legs-push [] flight zero none = none
legs-push [] flight (suc k) none = refl
legs-push (x ∷ flights) flight zero none = refl
legs-push (x ∷ flights) flight (suc k) none = legs-push flights flight k none

-- ---- one flight changes

apart : (k place : ℕ) → k ≢ place → k / 27 ≡ place / 27 → k % 27 ≢ place % 27
apart k place other same equal = other (omega arith)

-- one more leg record of the flight with a rank, if the list of its number exists
adds-at : (old new : LegTable) (grown : List (Vec FlightLegs Global)) (row more : Vec FlightLegs Global) (place s v : ℕ) (p : DayRange)
    → ((k : ℕ) → flights_of (slice_get grown k) ≡ flights_of (slice_get old.numbers.items k)) → place / 27 < length grown → flights_of (slice_get grown (place / 27)) ≡ row.items
    → new.numbers.items ≡ set grown (place / 27) more
    → AddsLeg (legs_in row.items (place % 27)) (legs_in more.items (place % 27)) s v p
    → ((k : ℕ) → k ≢ place % 27 → legs_in more.items k ≡ legs_in row.items k)
    → AddsLegAt old new place s v p
adds-at old new grown row more place s v p same there its changed adds others = record {
  its = subst (λ es. AddsLeg es (legs_at new place) s v p) (sym (before place refl)) (subst (λ es. AddsLeg (legs_in row.items (place % 27)) es s v p) (sym (after place refl)) adds);
  others = λ k other. by k other (nat_eq (k / 27) (place / 27)) refl;
}
  where
    -- those of the flights of the number, before and after
    before : (k : ℕ) → k / 27 ≡ place / 27 → legs_at old k ≡ legs_in row.items (k % 27)
    before k e = ap (λ n. legs_in (flights_of (slice_get old.numbers.items n)) (k % 27)) e ∙ ap (λ fs. legs_in fs (k % 27)) (sym (same (place / 27)) ∙ its)

    after : (k : ℕ) → k / 27 ≡ place / 27 → legs_at new k ≡ legs_in more.items (k % 27)
    after k e =
        ap (λ n. legs_in (flights_of (slice_get new.numbers.items n)) (k % 27)) e
        ∙ ap (λ ns. legs_in (flights_of (slice_get ns (place / 27))) (k % 27)) changed
        ∙ ap (λ o. legs_in (flights_of o) (k % 27)) (get-set grown (place / 27) more there)

    by : (k : ℕ) → k ≢ place → (b : Bool) → nat_eq (k / 27) (place / 27) ≡ b → legs_at new k ≡ legs_at old k
    by k other true e =
        let number : k / 27 ≡ place / 27 = grind (arith, nat_tests) in
        after k number ∙ others (k % 27) (apart k place other number) ∙ sym (before k number)
    by k other false e =
        let number : k / 27 ≢ place / 27 = grind (arith, nat_tests) in
        ap (λ ns. legs_in (flights_of (slice_get ns (k / 27))) (k % 27)) changed
        ∙ ap (λ o. legs_in (flights_of o) (k % 27)) (get-set_other grown (place / 27) (k / 27) more number)
        ∙ ap (λ fs. legs_in fs (k % 27)) (same (k / 27))

-- one more leg record, if the number and the suffix of the rank are known by themselves
pub adds-in : (old new : LegTable) (grown : List (Vec FlightLegs Global)) (row more : Vec FlightLegs Global) (place number suffix s v : ℕ) (p : DayRange)
    → number ≡ place / 27 → suffix ≡ place % 27
    → ((k : ℕ) → flights_of (slice_get grown k) ≡ flights_of (slice_get old.numbers.items k)) → number < length grown → flights_of (slice_get grown number) ≡ row.items
    → new.numbers.items ≡ set grown number more
    → AddsLeg (legs_in row.items suffix) (legs_in more.items suffix) s v p
    → ((k : ℕ) → k ≢ suffix → legs_in more.items k ≡ legs_in row.items k)
    → AddsLegAt old new place s v p
adds-in old new grown row more place number suffix s v p is_number is_suffix same there its changed adds others =
    adds-at old new grown row more place s v p same
    (subst (λ n. n < length grown) is_number there)
    (subst (λ n. flights_of (slice_get grown n) ≡ row.items) is_number its)
    (subst (λ n. new.numbers.items ≡ set grown n more) is_number changed)
    (subst (λ n. AddsLeg (legs_in row.items n) (legs_in more.items n) s v p) is_suffix adds)
    (subst (λ n. (k : ℕ) → k ≢ n → legs_in more.items k ≡ legs_in row.items k) is_suffix others)

-- ---- the flights that have leg records

step-from : (has : ℕ → Bool) (n k : ℕ) (b : Bool) → has n ≡ b → flights_from has n (suc k) ≡ (if b then flight_at n ∷ flights_from has (n + 1) k else flights_from has (n + 1) k)
step-from has n k b e = ap (λ c. if c then flight_at n ∷ flights_from has (n + 1) k else flights_from has (n + 1) k) e

pub step : (has : ℕ → Bool) (n : ℕ) (b : Bool) → n < flight_count → has n ≡ b → flights_left has n ≡ (if b then flight_at n ∷ flights_left has (n + 1) else flights_left has (n + 1))
step has n b l e =
    let more : flight_count - n ≡ suc (flight_count - (n + 1)) = omega arith in
    ap (flights_from has n) more ∙ step-from has n (flight_count - (n + 1)) b e

-- ranks without leg records are passed over
pub skip : (has : ℕ → Bool) (n k : ℕ) → n + k ≤ flight_count → ((j : ℕ) → n ≤ j → j < n + k → has j ≡ false) → flights_left has n ≡ flights_left has (n + k)
skip has n zero l none = let same : n ≡ n + 0 = omega arith in ap (flights_left has) same
skip has n (suc k) l none =
    let same : (n + 1) + k ≡ n + suc k = omega arith in
    step has n false (omega arith) (none n (omega arith) (omega arith))
    ∙ skip has (n + 1) k (omega arith) (λ j from to. none j (omega arith) (omega arith)) ∙ ap (flights_left has) same

pub none-left : (has : ℕ → Bool) → flights_left has flight_count ≡ []
none-left has = let none : flight_count - flight_count ≡ 0 = omega arith in ap (flights_from has flight_count) none

-- the next flight is pushed, or has no leg record
pub push-next : (has : ℕ → Bool) (n : ℕ) (fs : List FlightNumber) (all : List FlightNumber) → n < flight_count → has n ≡ true → fs ++ flights_left has n ≡ all → (fs ++ flight_at n ∷ []) ++ flights_left has (n + 1) ≡ all
push-next has n fs all l e h = append_assoc fs (flight_at n ∷ []) (flights_left has (n + 1)) ∙ ap (λ gs. fs ++ gs) (sym (step has n true l e)) ∙ h

pub pass-next : (has : ℕ → Bool) (n : ℕ) (fs : List FlightNumber) (all : List FlightNumber) → n < flight_count → has n ≡ false → fs ++ flights_left has n ≡ all → fs ++ flights_left has (n + 1) ≡ all
pass-next has n fs all l e h = ap (λ gs. fs ++ gs) (sym (step has n false l e)) ∙ h

-- after the last list there are no leg records
pub past-flights : (flights : List FlightLegs) (k : ℕ) → length flights ≤ k → has_legs (legs_in flights k) ≡ false
past-flights flights k l = ap (λ o. has_legs (entries_of o)) (slice_get_past flights k l)

pub past-numbers : (numbers : List (Vec FlightLegs Global)) (k j : ℕ) → length numbers ≤ k → has_legs (legs_in (flights_of (slice_get numbers k)) j) ≡ false
past-numbers numbers k j l = ap (λ o. has_legs (legs_in (flights_of o) j)) (slice_get_past numbers k l)

pub in-range : (number suffix : ℕ) → number < 10000 → suffix < 27 → 27 * number + suffix < flight_count
unfolding flight_count
in-range number suffix l m = omega arith

in-all : (number : ℕ) → number < 10000 → 27 * number + 27 ≤ flight_count
unfolding flight_count
in-all number l = omega arith

count-is : flight_count ≡ 270000
unfolding flight_count
count-is = refl

-- the flights of a number whose suffixes are after its list have no leg records
pub skip-flights : (has : ℕ → Bool) (flights : List FlightLegs) (number suffix : ℕ) → number < 10000 → suffix ≤ 27 → (suffix < 27 → length flights ≤ suffix)
    → ((s : ℕ) → s < 27 → has (27 * number + s) ≡ has_legs (legs_in flights s)) → flights_left has (27 * number + suffix) ≡ flights_left has (27 * number + 27)
skip-flights has flights number suffix l m end is =
    let all : 27 * number + 27 ≤ flight_count = in-all number l in
    let same : (27 * number + suffix) + (27 - suffix) ≡ 27 * number + 27 = omega arith in
    skip has (27 * number + suffix) (27 - suffix) (omega arith) none ∙ ap (flights_left has) same
  where
    none : (j : ℕ) → 27 * number + suffix ≤ j → j < (27 * number + suffix) + (27 - suffix) → has j ≡ false
    none j from to =
        let at : j ≡ 27 * number + (j - 27 * number) = omega arith in
        let past : length flights ≤ suffix = end (omega arith) in
        ap has at ∙ is (j - 27 * number) (omega arith) ∙ past-flights flights (j - 27 * number) (omega arith)

-- after the last number no flight has leg records
pub none-past : (numbers : List (Vec FlightLegs Global)) (number : ℕ) → number ≤ 10000 → (number < 10000 → length numbers ≤ number)
    → flights_left (λ place. has_legs (legs_in (flights_of (slice_get numbers (place / 27))) (place % 27))) (27 * number) ≡ []
none-past numbers number l end =
    let same : 27 * number + (flight_count - 27 * number) ≡ flight_count = omega (arith, count-is) in
    skip has (27 * number) (flight_count - 27 * number) (omega (arith, count-is)) none ∙ ap (flights_left has) same ∙ none-left has
  where
    has : ℕ → Bool
    has place = has_legs (legs_in (flights_of (slice_get numbers (place / 27))) (place % 27))

    none : (j : ℕ) → 27 * number ≤ j → j < 27 * number + (flight_count - 27 * number) → has j ≡ false
    none j from to =
        let past : length numbers ≤ number = end (omega (arith, count-is)) in
        past-numbers numbers (j / 27) (j % 27) (omega arith)

-- ---- they are those of the records

lower : (low : ℕ) (fs : List FlightNumber) → Rise (low + 1) fs → Rise low fs
lower low [] rise = tt
lower low (f ∷ fs) rise = (let from : low + 1 ≤ place_of f = rise.0 in omega arith, rise.1, rise.2)

rises : (has : ℕ → Bool) (low k : ℕ) → low + k ≤ flight_count → Rise low (flights_from has low k)
rises has low zero l = tt
rises has low (suc k) l = by (has low) (rises has (low + 1) k (omega arith))
  where
    by : (b : Bool) → Rise (low + 1) (flights_from has (low + 1) k) → Rise low (if b then flight_at low ∷ flights_from has (low + 1) k else flights_from has (low + 1) k)
    by true rest =
        let at : place_of (flight_at low) ≡ low = place-flight low in
        (omega (arith, at), flight-is low (omega arith), subst (λ n. Rise (n + 1) (flights_from has (low + 1) k)) (sym at) rest)
    by false rest = lower low (flights_from has (low + 1) k) rest

absent : (has : ℕ → Bool) (j low k : ℕ) → j < low → list_any (same_flight (flight_at j)) (flights_from has low k) ≡ false
absent has j low zero l = refl
absent has j low (suc k) l = by (has low) (absent has j (low + 1) k (omega arith))
  where
    by : (b : Bool) → list_any (same_flight (flight_at j)) (flights_from has (low + 1) k) ≡ false
        → list_any (same_flight (flight_at j)) (if b then flight_at low ∷ flights_from has (low + 1) k else flights_from has (low + 1) k) ≡ false
    by true rest =
        let other : same_flight (flight_at j) (flight_at low) ≡ false = same-places j low ∙ grind (arith, nat_tests) in
        ap (λ b. b || list_any (same_flight (flight_at j)) (flights_from has (low + 1) k)) other ∙ rest
    by false rest = rest

found : (has : ℕ → Bool) (j low k : ℕ) → low ≤ j → j < low + k → list_any (same_flight (flight_at j)) (flights_from has low k) ≡ has j
found has j low zero from to = absurd (omega arith)
found has j low (suc k) from to = by (has low) (nat_eq j low) refl refl (λ more. found has j (low + 1) k more (omega arith))
  where
    rest : Bool
    rest = list_any (same_flight (flight_at j)) (flights_from has (low + 1) k)

    by : (b c : Bool) → has low ≡ b → nat_eq j low ≡ c → (low + 1 ≤ j → rest ≡ has j)
        → list_any (same_flight (flight_at j)) (if b then flight_at low ∷ flights_from has (low + 1) k else flights_from has (low + 1) k) ≡ has j
    by true true e f later =
        let one : low ≡ j = grind (arith, nat_tests) in
        ap (λ b. b || rest) (same-places j low ∙ f) ∙ sym e ∙ ap has one
    by true false e f later =
        let more : low + 1 ≤ j = grind (arith, nat_tests) in
        ap (λ b. b || rest) (same-places j low ∙ f) ∙ later more
    by false true e f later =
        let one : low ≡ j = grind (arith, nat_tests) in
        absent has j (low + 1) k (omega arith) ∙ sym e ∙ ap has one
    by false false e f later =
        let more : low + 1 ≤ j = grind (arith, nat_tests) in
        later more

any-reverse : (p : Record → Bool) (rs : List Record) → list_any p (reverse rs) ≡ list_any p rs
any-reverse p [] = refl
any-reverse p (r ∷ rs) = ap (list_any p) (reverse-append (r ∷ []) rs) ∙ list_any-append p (reverse rs) (r ∷ []) ∙ ap (λ b. b || (p r || false)) (any-reverse p rs) ∙ turned (list_any p rs) (p r)
  where
    turned : (a b : Bool) → (a || (b || false)) ≡ (b || a)
    turned true true = refl
    turned true false = refl
    turned false true = refl
    turned false false = refl

pub flights-are : (table : LegTable) (earlier : List Record) → ((f : FlightNumber) → IsFlight f → has_legs (legs_at table (place_of f)) ≡ list_any (is_leg_of f) earlier)
    → AreFlights (reverse earlier) (flights_in table)
flights-are table earlier flown = record {
  rising = rises has 0 (flight_count - 0) (omega arith);
  each = λ f is.
      ap (λ g. list_any (same_flight g) (flights_in table)) (sym (flight-place f is))
      ∙ found has (place_of f) 0 (flight_count - 0) (omega arith) (let below = place-below f is in omega arith)
      ∙ flown f is ∙ sym (any-reverse (is_leg_of f) earlier);
}
  where
    has : ℕ → Bool
    has place = has_legs (legs_at table place)
