-- The flights of a schedule that fly, with their pieces, are those of all flights.
use Rattle.std.proofs.Common.{◌≡◌, ◌≢◌, ◌≤◌, ◌<◌, ℕ, zero, suc, ◌+◌, Bool, true, false, cond, nat_eq, List, [], ◌∷◌, ◌++◌, map, length, refl, sym, ap, ◌∙◌, arith}
use Rattle.std.specs.Prelude.{nat_lt, slice_index_or}
use Rattle.std.specs.List.{All, filter, flat_map, list_any, range_with_len, AllByRecursion as Each}
use Rattle.std.proofs.lemmas.Bool.Decides.{nat_tests}
use Rattle.std.proofs.lemmas.List.Elements.{recursion_from_All}
use Rattle.std.proofs.lemmas.List.FromFn.{filter_of_map_range_with_len_more}
use Rattle.ssim_values.specs.Flight.{FlightNumber, IsFlight}
use Rattle.ssim_records.specs.declared.record.Record.{Record}
use Rattle.ssim_base.specs.Export.{Piece, all_flights, flight_at, flight_count, flights_records, pieces, pieces_records}
use Rattle.ssim_base.specs.ReadBack as law
use Rattle.ssim_base.specs.ReadBack.{place_of}
use Rattle.ssim_base.specs.Timetable.{Days, is_among, same_flight}
use Rattle.ssim_base.proofs.Places.{flight-is, flight-place, place-below, place-flight, same_flight-place}
use Rattle.ssim_schedule.specs.FlightPieces.{AreExported, Divided, divided, divided_among, divided_flights, flies}
use Rattle.ssim_schedule.specs.internal.FlightSet.{is_marked}
use Rattle.ssim_schedule.specs.internal.Plan.{plan_of}
use Rattle.ssim_schedule.specs.internal.Table.{AreRising, Table, table_days}
use Rattle.ssim_schedule.proofs.Planning.{Exists, HasDays, flights_in, its_days, no_other, rises}

-- the flights from a rank on
abbrev pub flights_from : ℕ → ℕ → List FlightNumber
flights_from low k = map flight_at (range_with_len low k)

eq-not : (i j : ℕ) → i ≢ j → nat_eq i j ≡ false
eq-not i j other = by (nat_eq i j) refl
  where
    by : (b : Bool) → nat_eq i j ≡ b → b ≡ false
    by true e = absurd (other (grind (arith, nat_tests)))
    by false e = refl

-- a flight of a lower rank is not among flights that rise
not_among : (low : ℕ) (fs : List FlightNumber) (g : FlightNumber) → law.Rise low fs → IsFlight g → place_of g < low → list_any (same_flight g) fs ≡ false
not_among low [] g rise is less = refl
not_among low (f ∷ fs) g rise is less =
    let from : low ≤ place_of f = rise.0 in
    let differ : same_flight g f ≡ false = same_flight-place g f is rise.1 ∙ eq-not (place_of g) (place_of f) (λ e. omega arith) in
    rw (differ, not_among (place_of f + 1) fs g rise.2 is (omega arith)) refl

lower : (low from : ℕ) (fs : List FlightNumber) → from ≤ low → law.Rise low fs → law.Rise from fs
lower low from [] le rise = tt
lower low from (f ∷ fs) le rise = (let at : low ≤ place_of f = rise.0 in omega arith, rise.1, rise.2)

abbrev kept : (FlightNumber → Days) → List FlightNumber → List Divided
kept days fs = filter flies (map (divided days) fs)

-- the flights from a rank on that fly are among these
abbrev FlyNone : (FlightNumber → Days) → ℕ → List FlightNumber → Type 0
FlyNone days low fs = (g : FlightNumber) → IsFlight g → low ≤ place_of g → list_any (same_flight g) fs ≡ false → flies (divided days g) ≡ false

kept_some : (days : FlightNumber → Days) (low k : ℕ) (fs : List FlightNumber) → low + k ≡ flight_count → law.Rise low fs → FlyNone days low fs → kept days (flights_from low k) ≡ kept days fs
kept_some days low zero [] whole rise none = refl
kept_some days low zero (f ∷ fs) whole rise none =
    let from : low ≤ place_of f = rise.0 in
    let to : place_of f < flight_count = place-below f rise.1 in
    absurd (omega arith)
kept_some days low (suc k) [] whole rise none =
    let less : low < flight_count = omega arith in
    let here : flies (divided days (flight_at low)) ≡ false = none (flight_at low) (flight-is low less) (let at = place-flight low in omega arith) refl in
    rw here (kept_some days (low + 1) k [] (omega arith) tt (λ g is from out. none g is (omega arith) out))
kept_some days low (suc k) (f ∷ fs) whole rise none = by (nat_eq low (place_of f)) refl
    (λ same. kept_some days (low + 1) k fs (omega arith) (lower (place_of f + 1) (low + 1) fs (omega arith) rise.2)
    (λ g is from out. none g is (omega arith)
    (let differ : same_flight g f ≡ false = same_flight-place g f is rise.1 ∙ eq-not (place_of g) (place_of f) (λ e. omega arith) in rw (differ, out) refl)))
    (λ less. kept_some days (low + 1) k (f ∷ fs) (omega arith) (less, rise.1, rise.2) (λ g is from out. none g is (omega arith) out))
  where
    next : List Divided
    next = kept days (flights_from (low + 1) k)

    by : (b : Bool) → nat_eq low (place_of f) ≡ b → (low ≡ place_of f → next ≡ kept days fs) → (low + 1 ≤ place_of f → next ≡ kept days (f ∷ fs))
        → kept days (flights_from low (suc k)) ≡ kept days (f ∷ fs)
    by true e here later =
        let same : low ≡ place_of f = grind (arith, nat_tests) in
        let one : flight_at low ≡ f = ap flight_at same ∙ flight-place f rise.1 in
        ap (λ (g : FlightNumber). cond (flies (divided days g)) (divided days g ∷ next) next) one
        ∙ ap (λ (rest : List Divided). cond (flies (divided days f)) (divided days f ∷ rest) rest) (here same)
    by false e here later =
        let from : low ≤ place_of f = rise.0 in
        let less : low + 1 ≤ place_of f = grind (arith, nat_tests) in
        let within : low < flight_count = omega arith in
        let is : IsFlight (flight_at low) = flight-is low within in
        let below : place_of (flight_at low) < place_of f = (let at = place-flight low in omega arith) in
        let out : list_any (same_flight (flight_at low)) (f ∷ fs) ≡ false = not_among (place_of f) (f ∷ fs) (flight_at low) (omega arith, rise.1, rise.2) is below in
        let here : flies (divided days (flight_at low)) ≡ false = none (flight_at low) is (let at = place-flight low in omega arith) out in
        ap (λ (b : Bool). cond b (divided days (flight_at low) ∷ next) next) here ∙ later less

-- ---- the plan of a schedule

plan-divided : (days : FlightNumber → Days) (table : Table) → Each (HasDays days) table → plan_of table ≡ map (divided days) (flights_in table)
plan-divided days [] each = refl
plan-divided days (f ∷ table) each =
    ap (λ (ps : List Piece). (f.flight, ps) ∷ plan_of table) (ap pieces (sym each.0)) ∙ ap (λ (rest : List Divided). divided days f.flight ∷ rest) (plan-divided days table each.1)

-- the flights of the plan that fly are those of all flights
pub flying-all : (table : Table) (plan : List Divided) → AreRising table → All Exists table → plan ≡ plan_of table → filter flies plan ≡ divided_flights (table_days table)
flying-all table plan rising exist is =
    let days = table_days table in
    let each = recursion_from_All Exists table exist in
    ap (filter flies) (is ∙ plan-divided days table (its_days table rising))
    ∙ sym (kept_some days 0 flight_count (flights_in table) (omega arith) (rises 0 table rising each (λ some. omega arith))
    (λ g exists from out. ap (λ (ps : List Piece). nat_lt 0 (length ps)) (no_other table each g exists out)))

-- ---- flights of a list

filter_on : (p q : FlightNumber → Bool) → ((g : FlightNumber) → IsFlight g → p g ≡ q g) → (low k : ℕ) → low + k ≤ flight_count → filter p (flights_from low k) ≡ filter q (flights_from low k)
filter_on p q same low zero within = refl
filter_on p q same low (suc k) within =
    ap (λ (b : Bool). cond b (flight_at low ∷ filter p (flights_from (low + 1) k)) (filter p (flights_from (low + 1) k))) (same (flight_at low) (flight-is low (omega arith)))
    ∙ ap (λ (rest : List FlightNumber). cond (q (flight_at low)) (flight_at low ∷ rest) rest) (filter_on p q same (low + 1) k (omega arith))

-- tests that agree on flights choose the same of all flights
pub filter_agree_on : (p q : FlightNumber → Bool) → ((g : FlightNumber) → IsFlight g → p g ≡ q g) → filter p all_flights ≡ filter q all_flights
filter_agree_on p q same = filter_on p q same 0 flight_count (omega arith)

-- ---- a set of flights, place by place

-- the next place is marked, or not
pub marked_next : (marks : List Bool) (k : ℕ) (b : Bool) → slice_index_or marks k false ≡ b
    → filter (is_marked marks) (flights_from 0 (k + 1)) ≡ filter (is_marked marks) (flights_from 0 k) ++ cond b (flight_at k ∷ []) []
marked_next marks k b is =
    filter_of_map_range_with_len_more (is_marked marks) flight_at 0 k k (omega arith)
    ∙ ap (λ (c : Bool). filter (is_marked marks) (flights_from 0 k) ++ cond c (flight_at k ∷ []) []) (ap (λ (n : ℕ). slice_index_or marks n false) (place-flight k) ∙ is)

-- all places have come
pub marked_all : (marks : List Bool) (k : ℕ) → k ≡ 270000 → filter (is_marked marks) (flights_from 0 k) ≡ filter (is_marked marks) all_flights
unfolding flight_count
marked_all marks k is = ap (λ (n : ℕ). filter (is_marked marks) (flights_from 0 n)) is

-- ---- timetables that agree

module _ (days others : FlightNumber → Days) where
  divided_on : (p : FlightNumber → Bool) → ((g : FlightNumber) → IsFlight g → p g ≡ true → days g ≡ others g) → (low k : ℕ) → low + k ≤ flight_count
      → map (divided days) (filter p (flights_from low k)) ≡ map (divided others) (filter p (flights_from low k))
  divided_on p same low zero within = refl
  divided_on p same low (suc k) within = by (p (flight_at low)) refl (divided_on p same (low + 1) k (omega arith))
    where
      next : List FlightNumber
      next = filter p (flights_from (low + 1) k)

      by : (b : Bool) → p (flight_at low) ≡ b → map (divided days) next ≡ map (divided others) next
          → map (divided days) (cond b (flight_at low ∷ next) next) ≡ map (divided others) (cond b (flight_at low ∷ next) next)
      by true e later =
          ap (λ (ds : Days). (flight_at low, pieces ds) ∷ map (divided days) next) (same (flight_at low) (flight-is low (omega arith)) e)
          ∙ ap (λ (rest : List Divided). divided others (flight_at low) ∷ rest) later
      by false e later = later

  -- at the flights of a list
  pub divided_among_agree : (flights : List FlightNumber) → ((g : FlightNumber) → IsFlight g → is_among flights g ≡ true → days g ≡ others g) → divided_among flights days ≡ divided_among flights others
  divided_among_agree flights same = divided_on (is_among flights) same 0 flight_count (omega arith)

  divided_all : ((g : FlightNumber) → IsFlight g → days g ≡ others g) → (low k : ℕ) → low + k ≤ flight_count → map (divided days) (flights_from low k) ≡ map (divided others) (flights_from low k)
  divided_all same low zero within = refl
  divided_all same low (suc k) within =
      ap (λ (ds : Days). (flight_at low, pieces ds) ∷ map (divided days) (flights_from (low + 1) k)) (same (flight_at low) (flight-is low (omega arith)))
      ∙ ap (λ (rest : List Divided). divided others (flight_at low) ∷ rest) (divided_all same (low + 1) k (omega arith))

  -- at all flights
  pub divided_flights_agree : ((g : FlightNumber) → IsFlight g → days g ≡ others g) → divided_flights days ≡ divided_flights others
  divided_flights_agree same = ap (filter flies) (divided_all same 0 flight_count (omega arith))

-- ---- what is exported

no_pieces : (ps : List Piece) → nat_lt 0 (length ps) ≡ false → ps ≡ []
no_pieces [] none = refl
no_pieces (p ∷ ps) none = absurd (grind (arith, nat_tests))

module _ (airline : List ℕ) (days : FlightNumber → Days) where
  abbrev its_records : Divided → List Record
  its_records flight = pieces_records airline flight.0 1 flight.1

  exported_some : (fs : List FlightNumber) → flights_records airline days fs ≡ flat_map its_records (kept days fs)
  exported_some [] = refl
  exported_some (f ∷ fs) = by (flies (divided days f)) refl (exported_some fs)
    where
      by : (b : Bool) → flies (divided days f) ≡ b → flights_records airline days fs ≡ flat_map its_records (kept days fs)
          → flights_records airline days (f ∷ fs) ≡ flat_map its_records (cond b (divided days f ∷ kept days fs) (kept days fs))
      by true e later = ap (λ (rs : List Record). its_records (divided days f) ++ rs) later
      by false e later =
          ap (λ (ps : List Piece). pieces_records airline f 1 ps ++ flights_records airline days fs) (no_pieces (pieces (days f)) e) ∙ later

-- the records of an export are those of the flights that fly
pub are_exported : AreExported
are_exported airline days = exported_some airline days all_flights
