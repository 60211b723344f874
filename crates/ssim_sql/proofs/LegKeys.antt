-- No two legs of flights on their periods have one key.
use Rattle.std.proofs.Common.{◌≡◌, ◌≢◌, ◌≤◌, ◌<◌, ℕ, Bool, true, false, List, [], ◌∷◌}
use Rattle.std.proofs.Common.{if◌then◌else◌, length, map, refl, sym, ap, subst, arith}
use Rattle.std.specs.List.{AllByRecursion as Each, flat_map}
use Rattle.std.proofs.lemmas.List.Elements.{recursion_from_All}
use Rattle.ssim_values.specs.Flight.{FlightNumber}
use Rattle.ssim_values.specs.Period.{DayRange}
use Rattle.ssim_periods.specs.Pieces.{alone}
use Rattle.ssim_periods.proofs.PieceLaw.{alone-short}
use Rattle.ssim_base.specs.Export.{Piece, flight_count, pieces, same_itinerary}
use Rattle.ssim_base.specs.ReadBack.{IsTimetable}
use Rattle.ssim_base.specs.Timetable.{Above, Days, Legs, on_day}
use Rattle.ssim_base.proofs.Each.{each-any, each-flat_map}
use Rattle.ssim_base.proofs.Pieces.{itinerary_pieces}
use Rattle.ssim_schedule.specs.FlightPieces.{Divided, divided_flights, flies}
use Rattle.ssim_sql.specs.Keys.{AreDistinct, LegKey, leg_key}
use Rattle.ssim_sql.specs.LegRows.{flight_legs, piece_legs}
use Rattle.ssim_sql.proofs.FlightKeys.{from_rank, map-flat_map}
use Rattle.ssim_sql.proofs.PieceKeys.{AreOnce, Begins, pieces_distinct}

abbrev pub piece_keys : FlightNumber → Piece → List LegKey
piece_keys flight piece = map leg_key (piece_legs flight piece)

-- ---- a piece

their_flight : (flight : FlightNumber) (period : DayRange) (legs : Legs)
    → Each (λ k. k.0 ≡ flight) (piece_keys flight (period, legs))
their_flight flight period [] = tt
their_flight flight period (leg ∷ legs) = (refl, their_flight flight period legs)

their_first : (flight : FlightNumber) (period : DayRange) (legs : Legs)
    → Each (λ k. k.1 ≡ period.first) (piece_keys flight (period, legs))
their_first flight period [] = tt
their_first flight period (leg ∷ legs) = (refl, their_first flight period legs)

above : (flight : FlightNumber) (period : DayRange) (n m : ℕ) (legs : Legs) → m ≤ n → Above n legs
    → Each (λ (k : LegKey). (flight, period.first, m) ≢ k) (piece_keys flight (period, legs))
above flight period n m [] less rise = tt
above flight period n m (leg ∷ legs) less rise = (
  λ e.
      let same : m ≡ leg.sequence = ap (λ (k : LegKey). k.2) e in
      let more = rise.0 in
      omega (arith, same, less, more),
  above flight period leg.sequence m legs (let more = rise.0 in omega (arith, less, more)) rise.2,
)

pub rising : (flight : FlightNumber) (period : DayRange) (n : ℕ) (legs : Legs) → Above n legs
    → AreDistinct (piece_keys flight (period, legs))
rising flight period n [] rise = tt
rising flight period n (leg ∷ legs) rise = (
  above flight period leg.sequence leg.sequence legs (omega arith) rise.2,
  rising flight period leg.sequence legs rise.2,
)

-- ---- the pieces of days

each_alone : (P : Legs → Type 0) (legs : Legs) → P legs → Each P (alone same_itinerary [] legs)
each_alone P legs h =
    elim (same_itinerary legs []) as (λ (b : Bool). Each P (if b then [] else legs ∷ [])) [
      | true ↦ tt
      | false ↦ (h, tt)
    ]

once : (days : Days) → AreOnce (pieces days)
once days n =
    subst (λ (found : List Legs). length found ≤ 1) (sym ((itinerary_pieces days).on_each_day n))
    (alone-short same_itinerary [] (on_day days n))

-- each piece begins within the days
begin : (days : Days) → Each (Begins (length days)) (pieces days)
begin days =
    recursion_from_All (Begins (length days)) (pieces days) (λ k d within.
    let from = ((itinerary_pieces days).each_begins k d within) in
    (let one = from.0 in let other = from.1 in omega (arith, one, other), from.2))

of_pieces : (flight : FlightNumber) (days : Days)
    → ((n : ℕ) → n < length days → Above 0 (on_day days n))
    → AreDistinct (flat_map (piece_keys flight) (pieces days))
of_pieces flight days rise =
    pieces_distinct (length days) (Above 0) (piece_keys flight) (λ (k : LegKey). k.1) (pieces days)
    (once days) (begin days)
    (λ n less. subst (λ (found : List Legs). Each (Above 0) found)
    (sym ((itinerary_pieces days).on_each_day n))
    (each_alone (Above 0) (on_day days n) (rise n less)))
    (λ p above. rising flight p.0 0 p.1 above)
    (λ p. their_first flight p.0 p.1)

-- ---- all flights

abbrev flight_keys : Divided → List LegKey
flight_keys flight = map leg_key (flat_map (piece_legs flight.0) flight.1)

-- the keys of a flight's legs, piece by piece
by_pieces : (flight : FlightNumber) (ps : List Piece)
    → flight_keys (flight, ps) ≡ flat_map (piece_keys flight) ps
by_pieces flight ps = map-flat_map leg_key (piece_legs flight) ps

pub leg_keys : (days : FlightNumber → Days) → IsTimetable days
    → AreDistinct (map leg_key (flight_legs (divided_flights days)))
leg_keys days is =
    subst (λ (keys : List LegKey). AreDistinct keys)
    (sym (map-flat_map leg_key (λ (flight : Divided). flat_map (piece_legs flight.0) flight.1)
    (divided_flights days)))
    (from_rank (λ g. pieces (days g)) flies flight_keys (λ (k : LegKey). k.0)
    (λ g exists. subst (λ (keys : List LegKey). AreDistinct keys)
    (sym (by_pieces g (pieces (days g))))
    (of_pieces g (days g) (λ n less. is.rising g n exists
    (subst (λ k. n < k) (is.each_day g exists) less))))
    (λ g. subst (λ (keys : List LegKey). Each (λ k. k.0 ≡ g) keys)
    (sym (by_pieces g (pieces (days g))))
    (each-flat_map (λ (k : LegKey). k.0 ≡ g) (piece_keys g) (pieces (days g))
    (each-any (λ (p : Piece). Each (λ k. k.0 ≡ g) (piece_keys g p)) (pieces (days g))
    (λ p. their_flight g p.0 p.1))))
    0 flight_count (omega arith)).0
