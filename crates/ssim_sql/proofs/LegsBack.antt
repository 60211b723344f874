-- The rows of a flight that hold a day have the legs of the day.
use Rattle.std.proofs.Common.{◌≡◌, ◌∙◌, ◌≤◌, ◌<◌, ◌+◌, ◌&&◌, ℕ, zero, suc, Bool, true, false, cond}
use Rattle.std.proofs.Common.{nat_eq, if◌then◌else◌, List, [], ◌∷◌, ◌++◌, filter, map, refl, sym}
use Rattle.std.proofs.Common.{ap, arith}
use Rattle.std.proofs.lemmas.Bool.Decides.{nat_tests}
use Rattle.std.proofs.lemmas.List.{append-nil, map-append}
use Rattle.std.specs.List.{flat_map}
use Rattle.ssim_values.specs.Flight.{FlightNumber, IsFlight}
use Rattle.ssim_periods.specs.Calendar.{holds}
use Rattle.ssim_periods.specs.Pieces.{alone, held_on}
use Rattle.ssim_base.specs.Export.{Piece, flight_at, flight_count, pieces, same_itinerary}
use Rattle.ssim_base.specs.ReadBack.{place_of}
use Rattle.ssim_base.specs.Timetable.{Days, Legs, on_day, same_flight}
use Rattle.ssim_base.proofs.Pieces.{itinerary_pieces}
use Rattle.ssim_base.proofs.Places.{flight-is, flight-place, place-below, place-flight}
use Rattle.ssim_base.proofs.Places.{same_flight-place}
use Rattle.ssim_schedule.specs.FlightPieces.{Divided, divided, flies}
use Rattle.ssim_sql.specs.LegRows.{FlightLeg, RowsAreItineraries, flight_legs, is_row_on, piece_legs}
use Rattle.ssim_sql.proofs.FlightKeys.{chosen}

-- the legs of those rows that are of a flight, on a period that holds a day
abbrev found : FlightNumber → ℕ → List FlightLeg → Legs
found flight n rows = map (λ row. row.leg) (filter (is_row_on flight n) rows)

filter-append : {X : Type 0} (p : X → Bool) (xs ys : List X)
    → filter p (xs ++ ys) ≡ filter p xs ++ filter p ys
filter-append p [] ys = refl
filter-append {X} p (x ∷ xs) ys =
    elim (p x) as (λ (b : Bool). cond b (x ∷ filter p (xs ++ ys)) (filter p (xs ++ ys))
    ≡ cond b (x ∷ filter p xs) (filter p xs) ++ filter p ys) [
      | true ↦ ap (λ (rest : List X). x ∷ rest) (filter-append p xs ys)
      | false ↦ filter-append p xs ys
    ]

found-append : (flight : FlightNumber) (n : ℕ) (xs ys : List FlightLeg)
    → found flight n (xs ++ ys) ≡ found flight n xs ++ found flight n ys
found-append flight n xs ys =
    ap (map (λ (row : FlightLeg). row.leg)) (filter-append (is_row_on flight n) xs ys)
    ∙ map-append (λ (row : FlightLeg). row.leg) (filter (is_row_on flight n) xs)
    (filter (is_row_on flight n) ys)

-- ---- a piece

-- the legs of a piece are all found, or none is
of_piece : (g flight : FlightNumber) (n : ℕ) (piece : Piece) (b : Bool)
    → (same_flight g flight && holds piece.0 n) ≡ b
    → found flight n (piece_legs g piece) ≡ (if b then piece.1 else [])
of_piece g flight n piece b is = by piece.1 b is
  where
    by : (legs : Legs) (b : Bool) → (same_flight g flight && holds piece.0 n) ≡ b
        → found flight n (piece_legs g (piece.0, legs)) ≡ (if b then legs else [])
    by [] true is = refl
    by [] false is = refl
    by (leg ∷ legs) true is =
        let row : FlightLeg = record { flight = g; period = piece.0; leg = leg } in
        let rest = filter (is_row_on flight n) (piece_legs g (piece.0, legs)) in
        ap (λ (c : Bool). map (λ (r : FlightLeg). r.leg) (cond c (row ∷ rest) rest)) is
        ∙ ap (λ (ls : Legs). leg ∷ ls) (by legs true is)
    by (leg ∷ legs) false is =
        let row : FlightLeg = record { flight = g; period = piece.0; leg = leg } in
        let rest = filter (is_row_on flight n) (piece_legs g (piece.0, legs)) in
        ap (λ (c : Bool). map (λ (r : FlightLeg). r.leg) (cond c (row ∷ rest) rest)) is
        ∙ by legs false is

-- ---- the pieces of a flight

-- those of another flight have none
elsewhere : (g flight : FlightNumber) (n : ℕ) (ps : List Piece) → same_flight g flight ≡ false
    → found flight n (flat_map (piece_legs g) ps) ≡ []
elsewhere g flight n [] other = refl
elsewhere g flight n (p ∷ ps) other =
    found-append flight n (piece_legs g p) (flat_map (piece_legs g) ps)
    ∙ ap (λ (ls : Legs). ls ++ found flight n (flat_map (piece_legs g) ps))
    (of_piece g flight n p false (ap (λ (b : Bool). b && holds p.0 n) other))
    ∙ elsewhere g flight n ps other

-- its own have the legs of the pieces that hold the day
here : (g flight : FlightNumber) (n : ℕ) (ps : List Piece) → same_flight g flight ≡ true
    → found flight n (flat_map (piece_legs g) ps) ≡ flat_map (λ (legs : Legs). legs) (held_on ps n)
here g flight n [] same = refl
here g flight n (p ∷ ps) same =
    found-append flight n (piece_legs g p) (flat_map (piece_legs g) ps)
    ∙ ap (λ (ls : Legs). ls ++ found flight n (flat_map (piece_legs g) ps))
    (of_piece g flight n p (holds p.0 n) (ap (λ (b : Bool). b && holds p.0 n) same))
    ∙ ap (λ (ls : Legs). (if holds p.0 n then p.1 else []) ++ ls) (here g flight n ps same)
    ∙ elim (holds p.0 n) as (λ (b : Bool). (if b then p.1 else [])
    ++ flat_map (λ (legs : Legs). legs) (held_on ps n)
    ≡ flat_map (λ (legs : Legs). legs) (if b then p.1 ∷ held_on ps n else held_on ps n)) [
      | true ↦ refl
      | false ↦ refl
    ]

alone_legs : (legs : Legs) → flat_map (λ (ls : Legs). ls) (alone same_itinerary [] legs) ≡ legs
alone_legs [] = refl
alone_legs (leg ∷ legs) = append-nil (leg ∷ legs)

of_flight : (g flight : FlightNumber) (n : ℕ) (days : Days) → same_flight g flight ≡ true
    → found flight n (flat_map (piece_legs g) (pieces days)) ≡ on_day days n
of_flight g flight n days same =
    here g flight n (pieces days) same
    ∙ ap (λ (held : List Legs). flat_map (λ (legs : Legs). legs) held)
    ((itinerary_pieces days).on_each_day n)
    ∙ alone_legs (on_day days n)

-- ---- all flights

no_pieces : (days : FlightNumber → Days) (g : FlightNumber) → flies (divided days g) ≡ false
    → pieces (days g) ≡ []
no_pieces days g = by (pieces (days g))
  where
    by : (ps : List Piece) → flies (g, ps) ≡ false → ps ≡ []
    by [] none = refl
    by (p ∷ ps) none = absurd (grind (arith, nat_tests))

abbrev rows_from : (FlightNumber → Days) → ℕ → ℕ → List FlightLeg
rows_from days low k = flight_legs (chosen (λ g. pieces (days g)) flies low k)

-- a flight that does not fly has no rows, so all flights may be taken
rows-next : (days : FlightNumber → Days) (low k : ℕ)
    → rows_from days low (suc k)
    ≡ flat_map (piece_legs (flight_at low)) (pieces (days (flight_at low)))
    ++ rows_from days (low + 1) k
rows-next days low k = by (flies (divided days (flight_at low))) refl
  where
    g : FlightNumber
    g = flight_at low

    rest : List Divided
    rest = chosen (λ g. pieces (days g)) flies (low + 1) k

    by : (b : Bool) → flies (divided days (flight_at low)) ≡ b
        → flight_legs (cond b ((flight_at low, pieces (days (flight_at low)))
        ∷ chosen (λ g. pieces (days g)) flies (low + 1) k)
        (chosen (λ g. pieces (days g)) flies (low + 1) k))
        ≡ flat_map (piece_legs (flight_at low)) (pieces (days (flight_at low)))
        ++ rows_from days (low + 1) k
    by true is = refl
    by false is =
        ap (λ (ps : List Piece). flat_map (piece_legs (flight_at low)) ps
        ++ rows_from days (low + 1) k)
        (sym (no_pieces days (flight_at low) is))

eq-not : (i j : ℕ) → i < j → nat_eq j i ≡ false
eq-not i j less = grind (arith, nat_tests)

none_from : (days : FlightNumber → Days) (flight : FlightNumber) (n : ℕ) → IsFlight flight
    → (low k : ℕ)
    → low + k ≤ flight_count → place_of flight < low → found flight n (rows_from days low k) ≡ []
none_from days flight n is low zero within less = refl
none_from days flight n is low (suc k) within less =
    let g = flight_at low in
    let apart : nat_eq (place_of g) (place_of flight) ≡ false =
    eq-not (place_of flight) (place_of g) (let at = place-flight low in omega (arith, at, less)) in
    let other : same_flight g flight ≡ false =
    same_flight-place g flight (flight-is low (omega arith)) is ∙ apart in
    ap (found flight n) (rows-next days low k)
    ∙ found-append flight n (flat_map (piece_legs g) (pieces (days g))) (rows_from days (low + 1) k)
    ∙ ap (λ (ls : Legs). ls ++ found flight n (rows_from days (low + 1) k))
    (elsewhere g flight n (pieces (days g)) other)
    ∙ none_from days flight n is (low + 1) k (omega arith) (omega arith)

some_from : (days : FlightNumber → Days) (flight : FlightNumber) (n : ℕ) → IsFlight flight
    → (low k : ℕ)
    → low + k ≤ flight_count → low ≤ place_of flight → place_of flight < low + k
    → found flight n (rows_from days low k) ≡ on_day (days flight) n
some_from days flight n is low zero within from less = absurd (omega (arith, from, less))
some_from days flight n is low (suc k) within from less =
    let g = flight_at low in
    let mine = flat_map (piece_legs g) (pieces (days g)) in
    let rest = rows_from days (low + 1) k in
    ap (found flight n) (rows-next days low k) ∙ found-append flight n mine rest
    ∙ by (nat_eq low (place_of flight)) refl
    (λ above. some_from days flight n is (low + 1) k (omega arith) above (omega (arith, less)))
  where
    by : (b : Bool) → nat_eq low (place_of flight) ≡ b
        → (low + 1 ≤ place_of flight
        → found flight n (rows_from days (low + 1) k) ≡ on_day (days flight) n)
        → found flight n (flat_map (piece_legs (flight_at low)) (pieces (days (flight_at low))))
        ++ found flight n (rows_from days (low + 1) k) ≡ on_day (days flight) n
    by true e later =
        let at : low ≡ place_of flight = grind (arith, nat_tests) in
        let is_g : flight_at low ≡ flight = ap flight_at at ∙ flight-place flight is in
        let same : same_flight (flight_at low) flight ≡ true =
        same_flight-place (flight_at low) flight (flight-is low (omega arith)) is
        ∙ ap (λ m. nat_eq m (place_of flight)) (place-flight low) ∙ e in
        ap (λ (ls : Legs). ls ++ found flight n (rows_from days (low + 1) k))
        (of_flight (flight_at low) flight n (days (flight_at low)) same)
        ∙ ap (λ (ls : Legs). on_day (days (flight_at low)) n ++ ls)
        (none_from days flight n is (low + 1) k (omega arith) (omega arith))
        ∙ append-nil (on_day (days (flight_at low)) n)
        ∙ ap (λ (f : FlightNumber). on_day (days f) n) is_g
    by false e later =
        let above : low + 1 ≤ place_of flight = grind (arith, nat_tests) in
        let other : same_flight (flight_at low) flight ≡ false =
        same_flight-place (flight_at low) flight (flight-is low (omega arith)) is
        ∙ ap (λ m. nat_eq m (place_of flight)) (place-flight low) ∙ e in
        ap (λ (ls : Legs). ls ++ found flight n (rows_from days (low + 1) k))
        (elsewhere (flight_at low) flight n (pieces (days (flight_at low))) other)
        ∙ later above

pub legs_back : RowsAreItineraries
legs_back days flight n is =
    let below = place-below flight is in
    some_from days flight n is 0 flight_count (omega arith) (omega arith) (omega (arith, below))
