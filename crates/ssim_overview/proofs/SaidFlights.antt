-- What the pieces of flights say on a date is what the legs of the flights say.
use Rattle.std.proofs.Common.{◌≡◌, ◌∙◌, ℕ, ◌++◌, ◌<◌, Bool, true, false, if◌then◌else◌, filter}
use Rattle.std.proofs.Common.{List, [], ◌∷◌, map, refl, sym, ap, ap₂, arith, append-nil}
use Rattle.std.specs.List.{flat_map, range_with_len}
use Rattle.std.proofs.lemmas.List.Concat.{flat_map-append}
use Rattle.ssim_values.specs.Flight.{FlightNumber}
use Rattle.ssim_values.specs.Period.{DayRange}
use Rattle.ssim_periods.specs.Calendar.{holds}
use Rattle.ssim_periods.specs.Days.{each_day}
use Rattle.ssim_periods.specs.Pieces.{alone, held_on}
use Rattle.ssim_periods.proofs.DayLemmas.{day_count-is}
use Rattle.ssim_base.specs.Export.{Piece, all_flights, pieces, same_itinerary}
use Rattle.ssim_base.specs.Stations.{Row}
use Rattle.ssim_base.specs.Timetable.{Legs, on_day}
use Rattle.ssim_schedule.specs.FlightPieces.{Divided, divided_flights}
use Rattle.ssim_schedule.specs.FlightPieces as shown
use Rattle.ssim_overview.specs.Totals.{LegsOn, station_at}
use Rattle.ssim_overview.specs.SaidRows.{cut, is_about, leg_says, rows_of, said, said_about, said_rows}
use Rattle.ssim_overview.specs.SaidRows.{variation_on, with_variation}
use Rattle.ssim_overview.specs.internal.SaidRows.{Dated, about, dated, flights_say, legs_say}
use Rattle.ssim_overview.specs.internal.SaidRows.{pieces_say, rows_by}
use Rattle.ssim_overview.specs.declared.sayings.Saying.{Saying}
use Rattle.ssim_overview.proofs.FlownDates.{held_is, on_its_day}
use Rattle.ssim_overview.proofs.FlownFlights.{days_by, flown, no_pieces, one}
use Rattle.ssim_overview.proofs.SaidCut.{grown_is}
use Rattle.ssim_overview.proofs.SaidDays.{agree}
use Rattle.ssim_overview.proofs.SaidSteps.{held_append}
use Rattle.ssim_overview.proofs.StationMarks.{limit_is}

-- ---- the pieces of a flight

held_dated : (period : DayRange) (sayings : List Saying) (n : ℕ)
    → held_on (dated period sayings) n ≡ (if holds period n then sayings else [])
held_dated period [] n = by (holds period n)
  where
    nothing : List Saying
    nothing = []

    by : (b : Bool) → nothing ≡ (if b then nothing else nothing)
    by true = refl
    by false = refl
held_dated period (x ∷ sayings) n = by (holds period n) (held_dated period sayings n)
  where
    by : (b : Bool) → held_on (dated period sayings) n ≡ (if b then sayings else [])
        → (if b then x ∷ held_on (dated period sayings) n else held_on (dated period sayings) n)
        ≡ (if b then x ∷ sayings else [])
    by true rest = ap (λ (s : List Saying). x ∷ s) rest
    by false rest = rest

held_legs : (period : DayRange) (legs : Legs) (n : ℕ)
    → held_on (legs_say period legs) n ≡ (if holds period n then flat_map leg_says legs else [])
held_legs period [] n = by (holds period n)
  where
    nothing : List Saying
    nothing = []

    by : (b : Bool) → nothing ≡ (if b then nothing else nothing)
    by true = refl
    by false = refl
held_legs period (leg ∷ legs) n =
    held_append (dated period (leg_says leg)) (legs_say period legs) n
    ∙ ap₂ (λ (x y : List Saying). x ++ y) (held_dated period (leg_says leg) n) (held_legs period legs n)
    ∙ by (holds period n)
  where
    by : (b : Bool)
        → (if b then leg_says leg else []) ++ (if b then flat_map leg_says legs else [])
        ≡ (if b then leg_says leg ++ flat_map leg_says legs else [])
    by true = refl
    by false = refl

-- what some itineraries say
abbrev all_say : List Legs → List Saying
all_say itineraries = flat_map (λ legs. flat_map leg_says legs) itineraries

held_pieces : (ps : List Piece) (n : ℕ) → held_on (pieces_say ps) n ≡ all_say (held_on ps n)
held_pieces [] n = refl
held_pieces (p ∷ ps) n =
    held_append (legs_say p.0 p.1) (pieces_say ps) n
    ∙ ap₂ (λ (x y : List Saying). x ++ y) (held_legs p.0 p.1 n) (held_pieces ps n) ∙ by (holds p.0 n)
  where
    by : (b : Bool)
        → (if b then flat_map leg_says p.1 else []) ++ all_say (held_on ps n)
        ≡ all_say (if b then p.1 ∷ held_on ps n else held_on ps n)
    by true = refl
    by false = refl

alone_say : (legs : Legs) → all_say (alone same_itinerary [] legs) ≡ flat_map leg_says legs
alone_say [] = refl
alone_say (leg ∷ legs) = append-nil (flat_map leg_says (leg ∷ legs))

flight_says : (legs_on : ℕ → Legs) (n : ℕ) → n < 36525
    → held_on (pieces_say (pieces (each_day legs_on))) n ≡ flat_map leg_says (legs_on n)
flight_says legs_on n lt =
    held_pieces (pieces (each_day legs_on)) n ∙ ap all_say (held_is (each_day legs_on) n)
    ∙ alone_say (on_day (each_day legs_on) n) ∙ ap (flat_map leg_says) (on_its_day legs_on n lt)

-- ---- all flights

all_flights_say : (legs_on : LegsOn) (n : ℕ) → n < 36525 → (flights : List FlightNumber)
    → held_on (flights_say (flown legs_on flights)) n
    ≡ flat_map leg_says (flat_map (λ flight. legs_on flight n) flights)
all_flights_say legs_on n lt [] = refl
all_flights_say legs_on n lt (flight ∷ flights) =
    by (shown.flies (one legs_on flight)) refl (all_flights_say legs_on n lt flights)
    ∙ sym (flat_map-append leg_says (legs_on flight n) (flat_map (λ f. legs_on f n) flights))
  where
    later : List Divided
    later = flown legs_on flights

    others : List Saying
    others = flat_map leg_says (flat_map (λ f. legs_on f n) flights)

    mine : List Saying
    mine = flat_map leg_says (legs_on flight n)

    here : (b : Bool) → shown.flies (one legs_on flight) ≡ b
        → held_on (flights_say (if shown.flies (one legs_on flight) then one legs_on flight ∷ later else later)) n
        ≡ held_on (flights_say (if b then one legs_on flight ∷ later else later)) n
    here b e = ap (λ (t : Bool). held_on (flights_say (if t then one legs_on flight ∷ later else later)) n) e

    by : (b : Bool) → shown.flies (one legs_on flight) ≡ b → held_on (flights_say later) n ≡ others
        → held_on (flights_say (if shown.flies (one legs_on flight) then one legs_on flight ∷ later else later)) n
        ≡ mine ++ others
    by true e rest =
        here true e ∙ held_append (pieces_say (one legs_on flight).1) (flights_say later) n
        ∙ ap₂ (λ (x y : List Saying). x ++ y) (flight_says (legs_on flight) n lt) rest
    by false e rest =
        here false e ∙ rest
        ∙ ap (λ (x : List Saying). x ++ others)
        (sym (ap (λ (ps : List Piece). held_on (pieces_say ps) n) (no_pieces legs_on flight e))
        ∙ flight_says (legs_on flight) n lt)

about_held : (station : List ℕ) (sayings : List Dated) (n : ℕ)
    → held_on (about station sayings) n ≡ filter (is_about station) (held_on sayings n)
about_held station [] n = refl
about_held station (x ∷ sayings) n =
    by (is_about station x.1) refl (holds x.0 n) refl (about_held station sayings n)
  where
    rest : List Saying
    rest = held_on (about station sayings) n

    others : List Saying
    others = filter (is_about station) (held_on sayings n)

    by : (a : Bool) → is_about station x.1 ≡ a → (b : Bool) → holds x.0 n ≡ b → rest ≡ others
        → held_on (if is_about station x.1 then x ∷ about station sayings else about station sayings) n
        ≡ filter (is_about station) (if holds x.0 n then x.1 ∷ held_on sayings n else held_on sayings n)
    by a e b f same =
        ap (λ (t : Bool). held_on (if t then x ∷ about station sayings else about station sayings) n) e
        ∙ in_first a ∙ ap (λ (t : Bool). if a then (if t then x.1 ∷ rest else rest) else rest) f
        ∙ both a b same
        ∙ ap (λ (t : Bool). if b then (if t then x.1 ∷ others else others) else others) (sym e)
        ∙ sym (in_last b)
        ∙ ap (λ (t : Bool). filter (is_about station) (if t then x.1 ∷ held_on sayings n else held_on sayings n)) (sym f)
      where
        in_first : (t : Bool)
            → held_on (if t then x ∷ about station sayings else about station sayings) n
            ≡ (if t then (if holds x.0 n then x.1 ∷ rest else rest) else rest)
        in_first true = refl
        in_first false = refl

        in_last : (t : Bool)
            → filter (is_about station) (if t then x.1 ∷ held_on sayings n else held_on sayings n)
            ≡ (if t then (if is_about station x.1 then x.1 ∷ others else others) else others)
        in_last true = refl
        in_last false = refl

        both : (s t : Bool) → rest ≡ others
            → (if s then (if t then x.1 ∷ rest else rest) else rest)
            ≡ (if t then (if s then x.1 ∷ others else others) else others)
        both true true h = ap (λ (r : List Saying). x.1 ∷ r) h
        both true false h = h
        both false true h = h
        both false false h = h

-- what is said of a station on a date
said_is : (legs_on : LegsOn) (flights : List Divided) (station : List ℕ) (n : ℕ)
    → flights ≡ divided_flights (days_by legs_on) → n < 36525
    → held_on (about station (flights_say flights)) n ≡ said_about legs_on station n
said_is legs_on flights station n are lt =
    about_held station (flights_say flights) n
    ∙ ap (filter (is_about station))
    (ap (λ (fs : List Divided). held_on (flights_say fs) n) are ∙ all_flights_say legs_on n lt all_flights)

-- the rows of a station
rows_said : (legs_on : LegsOn) (flights : List Divided) (station : List ℕ)
    → flights ≡ divided_flights (days_by legs_on)
    → rows_by (flights_say flights) station ≡ rows_of legs_on station
rows_said legs_on flights station are =
    let count = day_count-is in
    grown_is station (with_variation (λ n. said (held_on (about station (flights_say flights)) n)) (range_with_len 0 36525))
    ∙ ap (cut station)
    (agree (λ n. said (held_on (about station (flights_say flights)) n)) (variation_on legs_on station) 0 36525
    (λ n low high. ap said (said_is legs_on flights station n are (omega arith)))
    ∙ ap (λ (k : ℕ). with_variation (variation_on legs_on station) (range_with_len 0 k)) (sym count))

-- the rows of all stations
pub all_rows : (legs_on : LegsOn) (flights : List Divided)
    → flights ≡ divided_flights (days_by legs_on) → (stations : List (List ℕ))
    → flat_map (rows_by (flights_say flights)) stations ≡ flat_map (rows_of legs_on) stations
all_rows legs_on flights are [] = refl
all_rows legs_on flights are (s ∷ stations) =
    ap₂ (λ (x y : List Row). x ++ y) (rows_said legs_on flights s are) (all_rows legs_on flights are stations)

-- the whole table
pub table_is : (legs_on : LegsOn) (flights : List Divided) (sayings : List Dated) (rows : List Row)
    → flights ≡ divided_flights (days_by legs_on) → sayings ≡ flights_say flights
    → rows ≡ flat_map (rows_by sayings) (map station_at (range_with_len 0 17576))
    → rows ≡ said_rows legs_on
table_is legs_on flights sayings rows are said_are is =
    is ∙ ap (λ (s : List Dated). flat_map (rows_by s) (map station_at (range_with_len 0 17576))) said_are
    ∙ all_rows legs_on flights are (map station_at (range_with_len 0 17576))
    ∙ ap (λ (n : ℕ). flat_map (rows_of legs_on) (map station_at (range_with_len 0 n))) (sym limit_is)
