-- The new timetable, one flight after another.
use Rattle.std.proofs.Common.{◌≡◌, ◌∙◌, ◌≤◌, ◌<◌, ℕ, zero, suc, ◌+◌, Bool, true, false, ◌||◌, nat_eq}
use Rattle.std.proofs.Common.{nat_lt, if◌then◌else◌, List, [], ◌∷◌, length, map, filter, take}
use Rattle.std.proofs.Common.{get_or, refl, sym, ap, arith}
use Rattle.std.specs.List.{AllByRecursion}
use Rattle.std.proofs.lemmas.Bool.Decides.{nat_tests}
use Rattle.std.proofs.lemmas.List.Folds.{list_any_more}
use Rattle.std.proofs.lemmas.List.{take_all}
use Rattle.ssim_values.specs.Flight.{FlightNumber, IsFlight}
use Rattle.ssim_values.specs.declared.time_mode.TimeMode.{TimeMode}
use Rattle.ssim_periods.proofs.DayLemmas.{each_day-same}
use Rattle.ssim_periods.specs.Pieces.{alone, held_on}
use Rattle.ssim_periods.proofs.PieceLaw.{pieces_law}
use Rattle.ssim_base.specs.Export.{Piece, flight_at, flight_count, pieces, same_itinerary}
use Rattle.ssim_base.specs.clauses.ItineraryLaws.{exact_itinerary}
use Rattle.ssim_base.specs.ReadBack.{place_of}
use Rattle.ssim_base.specs.Stations.{Row}
use Rattle.ssim_base.specs.Timetable.{Days, Legs, is_among, on_day, same_flight}
use Rattle.ssim_base.proofs.Places.{flight-place, place-below, same-self, same_flight-place}
use Rattle.ssim_schedule.specs.clauses.Schedule.{Flown, days_in}
use Rattle.ssim_schedule.specs.FlightPieces.{Divided, divided, divided_flights, flies}
use Rattle.ssim_schedule.proofs.Divisions.{flights_from}
use Rattle.ssim_parts.specs.Converted.{comes_to, converted_days, converted_on, least_to}
use Rattle.ssim_parts.specs.Fates.{lands_on}
use Rattle.ssim_parts.specs.FlightFates.{FlightFate, fate_pieces}
use Rattle.ssim_parts.specs.MovedLegs.{moved_legs, own_fate}
use Rattle.ssim_parts.specs.internal.Changes.{ChangesFlight, Has, after_change}
use Rattle.ssim_parts.specs.internal.KeptDates.{or_legs}

or_itself : (legs : Legs) → or_legs legs legs ≡ legs
or_itself [] = refl
or_itself (leg ∷ legs) = refl

module _ (rows : List Row) (wanted : TimeMode) (old : Flown) where
  abbrev theirs : FlightNumber → ℕ → Legs
  theirs g = converted_on rows wanted (days_in old g)

  -- what a flight of the new timetable has if those of a list have been converted
  abbrev pub so_far : List FlightNumber → FlightNumber → ℕ → Legs
  so_far done g n = if is_among done g then theirs g n else []

  abbrev pub AreConverted : List FlightNumber → Flown → Type 0
  AreConverted done new = (g : FlightNumber) → IsFlight g → Has new g (so_far done g)

  same_number : (f g : FlightNumber) → IsFlight f → IsFlight g → place_of f ≡ place_of g → f ≡ g
  same_number f g is exists places =
      sym (flight-place f is) ∙ ap flight_at places ∙ flight-place g exists

  one_flight : (fs : List FlightNumber) (i : ℕ) (f g : FlightNumber) → i < length fs
      → f ≡ get_or fs i f → IsFlight f → IsFlight g → (n : ℕ)
      → after_change f (λ m before. or_legs before (theirs f m)) g (so_far (take i fs) g) n
      ≡ so_far (take (i + 1) fs) g n
  one_flight fs i f g within at is exists n = by (nat_eq (place_of f) (place_of g)) refl
    where
      more : is_among (take (i + 1) fs) g
          ≡ (is_among (take i fs) g || nat_eq (place_of g) (place_of f))
      more =
          list_any_more (same_flight g) fs i f within
          ∙ ap (λ (h : FlightNumber). is_among (take i fs) g || same_flight g h) (sym at)
          ∙ ap (λ (b : Bool). is_among (take i fs) g || b) (same_flight-place g f exists is)

      turned : (b : Bool) → nat_eq (place_of f) (place_of g) ≡ b
          → nat_eq (place_of g) (place_of f) ≡ b
      turned true e = grind (arith, nat_tests)
      turned false e = grind (arith, nat_tests)

      again : (m : Bool) → or_legs (if m then theirs g n else []) (theirs g n)
          ≡ (if m || true then theirs g n else [])
      again true = or_itself (theirs g n)
      again false = refl

      others : (m : Bool) → (if m then theirs g n else []) ≡ (if m || false then theirs g n else [])
      others true = refl
      others false = refl

      by : (b : Bool) → nat_eq (place_of f) (place_of g) ≡ b
          → (if b then or_legs (so_far (take i fs) g n) (theirs f n) else so_far (take i fs) g n)
          ≡ so_far (take (i + 1) fs) g n
      by true e =
          let places : place_of f ≡ place_of g = grind (arith, nat_tests) in
          ap (λ (h : FlightNumber). or_legs (so_far (take i fs) g n) (theirs h n))
          (same_number f g is exists places)
          ∙ again (is_among (take i fs) g)
          ∙ sym (ap (λ (b : Bool). if b then theirs g n else [])
          (more ∙ ap (λ (b : Bool). is_among (take i fs) g || b) (turned true e)))
      by false e =
          others (is_among (take i fs) g)
          ∙ sym (ap (λ (b : Bool). if b then theirs g n else [])
          (more ∙ ap (λ (b : Bool). is_among (take i fs) g || b) (turned false e)))

  -- one more flight has been converted
  pub one_more : (mid new : Flown) (fs : List FlightNumber) (i : ℕ) (f : FlightNumber)
      → i < length fs → f ≡ get_or fs i f → IsFlight f
      → ChangesFlight f (λ m before. or_legs before (theirs f m)) mid new
      → AreConverted (take i fs) mid → AreConverted (take (i + 1) fs) new
  one_more mid new fs i f within at is changes were g exists =
      changes g (so_far (take i fs) g) (were g exists)
      ∙ each_day-same
      (after_change f (λ m before. or_legs before (theirs f m)) g (so_far (take i fs) g))
      (so_far (take (i + 1) fs) g) (λ n less. one_flight fs i f g within at is exists n)

  -- a flight that flies on no date has none in the new timetable
  none_converted : (days : Days) → ((n : ℕ) → on_day days n ≡ []) → (m : ℕ)
      → [] ≡ converted_on rows wanted days m
  none_converted days none m =
      let n = least_to rows wanted days m in
      let away : comes_to rows wanted days m n ≡ false =
      ap (λ (legs : Legs). lands_on m n (own_fate rows wanted n legs)) (none n) in
      sym (ap (λ (b : Bool). if b then moved_legs rows wanted n (on_day days n) else []) away)

-- ---- the flights that fly

-- a flight without pieces flies on no date
pub no_pieces : (days : Days) → nat_lt 0 (length (pieces days)) ≡ false → (n : ℕ)
    → on_day days n ≡ []
no_pieces days none n = by (pieces days) refl none
  where
    law : held_on (pieces days) n ≡ alone same_itinerary [] (on_day days n)
    law = (pieces_law same_itinerary [] exact_itinerary days).on_each_day n

    nothing : (legs : Legs) → [] ≡ alone same_itinerary [] legs → legs ≡ []
    nothing [] e = refl
    nothing (leg ∷ legs) e = absurd cc

    by : (ps : List Piece) → pieces days ≡ ps → nat_lt 0 (length ps) ≡ false → on_day days n ≡ []
    by [] e f = nothing (on_day days n) (sym (ap (λ (ps : List Piece). held_on ps n) e) ∙ law)
    by (p ∷ ps) e f =
        let some : nat_lt 0 (length (p ∷ ps)) ≡ true = grind (arith, nat_tests) in absurd cc

abbrev pub names : List Divided → List FlightNumber
names = map (λ flight. flight.0)

pub length_names : (flights : List Divided) → length (names flights) ≡ length flights
length_names [] = refl
length_names (flight ∷ flights) = let later = length_names flights in omega (arith, later)

or_both : (a b : Bool) → (a || b) ≡ false → (a ≡ false) × (b ≡ false)
or_both true b e = absurd cc
or_both false b e = (refl, e)

module _ (days : FlightNumber → Days) (g : FlightNumber) (is : IsFlight g) where
  abbrev kept_from : ℕ → ℕ → List Divided
  kept_from low k = filter flies (map (divided days) (flights_from low k))

  unlisted : (low k : ℕ) → low ≤ place_of g → place_of g < low + k
      → is_among (names (kept_from low k)) g ≡ false → flies (divided days g) ≡ false
  unlisted low zero from to none = absurd (omega (arith, from, to))
  unlisted low (suc k) from to none =
      by (flies (divided days (flight_at low))) (nat_eq (place_of g) low)
      (λ from to none. unlisted (low + 1) k from to none) refl refl none
    where
      by : (b here : Bool)
          → (low + 1 ≤ place_of g → place_of g < low + 1 + k
          → is_among (names (kept_from (low + 1) k)) g ≡ false → flies (divided days g) ≡ false)
          → flies (divided days (flight_at low)) ≡ b → nat_eq (place_of g) low ≡ here
          → is_among (names (if b then divided days (flight_at low) ∷ kept_from (low + 1) k
          else kept_from (low + 1) k)) g ≡ false
          → flies (divided days g) ≡ false
      by true true later e f none =
          let at : place_of g ≡ low = grind (arith, nat_tests) in
          let same : flight_at low ≡ g = ap flight_at (sym at) ∙ flight-place g is in
          let self : same_flight g (flight_at low) ≡ true = ap (same_flight g) same ∙ same-self g in
          let other = (or_both (same_flight g (flight_at low)) _ none).0 in
          absurd cc
      by false true later e f none =
          let at : place_of g ≡ low = grind (arith, nat_tests) in
          let same : flight_at low ≡ g = ap flight_at (sym at) ∙ flight-place g is in
          ap (λ (h : FlightNumber). flies (divided days h)) (sym same) ∙ e
      by true false later e f none =
          let not_here : (place_of g ≡ low) → ⊥ = λ at. (let no : nat_eq (place_of g) low ≡ true =
          grind (arith, nat_tests) in absurd cc) in
          later (omega (arith, from, not_here)) (omega (arith, to))
          (or_both (same_flight g (flight_at low)) _ none).1
      by false false later e f none =
          let not_here : (place_of g ≡ low) → ⊥ = λ at. (let no : nat_eq (place_of g) low ≡ true =
          grind (arith, nat_tests) in absurd cc) in
          later (omega (arith, from, not_here)) (omega (arith, to)) none

  pub not_flying : is_among (names (divided_flights days)) g ≡ false
      → (n : ℕ) → on_day (days g) n ≡ []
  not_flying none =
      let to : place_of g < 0 + flight_count = let less = place-below g is in omega (arith, less) in
      no_pieces (days g) (unlisted 0 flight_count (omega arith) to none)

-- all flights have been converted
pub all_converted : (rows : List Row) (wanted : TimeMode) (old new : Flown) (fs : List FlightNumber)
    (i : ℕ) → length fs ≤ i → fs ≡ names (divided_flights (days_in old))
    → AreConverted rows wanted old (take i fs) new → (g : FlightNumber) → IsFlight g
    → days_in new g ≡ converted_days rows wanted (days_in old g)
all_converted rows wanted old new fs i past are were g exists =
    were g exists
    ∙ each_day-same (so_far rows wanted old (take i fs) g) (converted_on rows wanted (days_in old g))
    (λ n less. ap (λ (done : List FlightNumber). so_far rows wanted old done g n) (take_all i fs past)
    ∙ by (is_among fs g) refl n)
  where
    by : (b : Bool) → is_among fs g ≡ b → (n : ℕ)
        → (if b then converted_on rows wanted (days_in old g) n else [])
        ≡ converted_on rows wanted (days_in old g) n
    by true e n = refl
    by false e n =
        none_converted rows wanted old (days_in old g) (not_flying (days_in old) g exists
        (ap (λ (l : List FlightNumber). is_among l g) (sym are) ∙ e)) n

-- each flight that is listed has its pieces
pub each_divided : (days : FlightNumber → Days) (fs : List FlightNumber)
    → AllByRecursion (λ flight. flight.1 ≡ pieces (days flight.0))
    (filter flies (map (divided days) fs))
each_divided days [] = tt
each_divided days (f ∷ fs) =
    elim (flies (divided days f)) as (λ b. AllByRecursion
    (λ flight. flight.1 ≡ pieces (days flight.0))
    (if b then divided days f ∷ filter flies (map (divided days) fs)
    else filter flies (map (divided days) fs))) [
      | true ↦ (refl, each_divided days fs)
      | false ↦ each_divided days fs
    ]

-- a flight, and what becomes of its dates
abbrev pub flight_fate : List Row → TimeMode → (FlightNumber → Days) → Divided → FlightFate
flight_fate rows wanted days flight = (flight.0, fate_pieces rows wanted (days flight.0))
