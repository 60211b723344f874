-- What the pieces of the flights that fly have on a board is what the timetable has there.
use Rattle.std.proofs.Common.{◌≡◌, ◌∙◌, ◌⊎◌, inl, inr, ℕ, ◌+◌, ◌-◌, ◌<◌, ◌≤◌, nat_lt, Bool, true, false, cond, if◌then◌else◌, List, [], ◌∷◌, ◌++◌, map, length, refl, sym, ap, ap₂, subst, append-nil, arith}
use Rattle.std.specs.List.{AllByRecursion as Every, filter, flat_map, range_with_len}
use Rattle.std.proofs.lemmas.Bool.Decides.{nat_tests}
use Rattle.ssim_values.specs.Flight.{FlightNumber}
use Rattle.ssim_periods.specs.Calendar.{day_count, holds}
use Rattle.ssim_periods.specs.Pieces.{alone, held_on}
use Rattle.ssim_periods.proofs.DayLemmas.{day_count-is}
use Rattle.ssim_base.specs.Export.{Piece, all_flights, pieces, same_itinerary}
use Rattle.ssim_base.specs.Timetable.{Days, Legs, on_day}
use Rattle.ssim_base.proofs.Pieces.{itinerary_pieces}
use Rattle.ssim_schedule.specs.clauses.Dates.{AgreeBetween}
use Rattle.ssim_schedule.specs.FlightPieces.{Divided, divided, divided_flights, flies}
use Rattle.ssim_board.specs.Movements.{date_movements, end_movements, flight_movements, is_there}
use Rattle.ssim_board.specs.Movements.{leg_movements, movement, movements}
use Rattle.ssim_board.specs.clauses.Movements.{first_date, last_date}
use Rattle.ssim_board.specs.internal.PieceMovements.{all_movements, date_end, divided_movements, on_date, piece_movements}
use Rattle.ssim_board.specs.declared.board.Board.{Board}
use Rattle.ssim_board.specs.declared.movement.Movement.{Movement}
use Rattle.ssim_board.specs.declared.movement.MovementKind.TheVariants.{Departure, Arrival}
use Rattle.ssim_listing.proofs.Ranges.{same_in}
use Rattle.ssim_board.proofs.Lists.{every_append, every_made, none_made, same_made, window}
use Rattle.ssim_board.proofs.Near.{end_near, only_near}

module _ (board : Board) (flight : FlightNumber) (date : ℕ) where
  abbrev legs_on : Legs → List Movement
  legs_on legs = flat_map (leg_movements board flight date) legs

  -- one piece more, if it holds the date
  on_one : (p : Piece) (ps : List Piece) → piece_movements board flight date ps ≡ flat_map legs_on (held_on ps date) → (b : Bool)
      → (if b then legs_on p.1 else []) ++ piece_movements board flight date ps ≡ flat_map legs_on (if b then p.1 ∷ held_on ps date else held_on ps date)
  on_one p ps h true = ap (λ ys. legs_on p.1 ++ ys) h
  on_one p ps h false = h

  -- the pieces that hold the date
  on_held : (ps : List Piece) → piece_movements board flight date ps ≡ flat_map legs_on (held_on ps date)
  on_held [] = refl
  on_held (p ∷ ps) = on_one p ps (on_held ps) (holds p.0 date)

  -- the legs of a date in a list of their own, or no legs
  of_alone : (legs : Legs) → flat_map legs_on (alone same_itinerary [] legs) ≡ legs_on legs
  of_alone [] = refl
  of_alone (leg ∷ legs) = append-nil (legs_on (leg ∷ legs))

  of_pieces : (days : Days) → piece_movements board flight date (pieces days) ≡ date_movements board flight days date
  of_pieces days =
      on_held (pieces days) ∙ ap (flat_map legs_on) ((itinerary_pieces days).on_each_day date) ∙ of_alone (on_day days date)

-- ---- all dates of origin

pub end_within : (day : ℕ) (b : Bool) → nat_lt day 36524 ≡ b → (if b then day + 1 else 36524) + 1 ≤ 36525
end_within day true e = let early : day < 36524 = grind (arith, nat_tests) in omega arith
end_within day false e = omega arith

far_from : (day k : ℕ) (b : Bool) → nat_lt day 36524 ≡ b → k < 36525 → (k < day - 10) ⊎ ((if b then day + 1 else 36524) + 1 ≤ k) → (k + 10 < day) ⊎ (day + 1 < k)
far_from day k b e within (inl early) = inl (omega arith)
far_from day k true e within (inr late) = inr (omega arith)
far_from day k false e within (inr late) = absurd (omega (arith, late, within))

of_flight : (board : Board) (days : FlightNumber → Days) (flight : FlightNumber) → divided_movements board (divided days flight) ≡ flight_movements board days flight
of_flight board days flight =
    let f = date_movements board flight (days flight) in
    same_made (λ date. piece_movements board flight date (pieces (days flight))) f (range_with_len (first_date board) (date_end board - first_date board)) (λ date. of_pieces board flight date (days flight))
    ∙ sym (window f (first_date board) (date_end board) day_count (subst (λ (n : ℕ). date_end board ≤ n) (sym day_count-is) (end_within board.day (nat_lt board.day 36524) refl))
    (λ k within outside. only_near board flight (days flight) k (far_from board.day k (nat_lt board.day 36524) refl (subst (λ (n : ℕ). k < n) day_count-is within) outside)))

-- ---- all flights

no_pieces : (ps : List Piece) → nat_lt 0 (length ps) ≡ false → ps ≡ []
no_pieces [] e = refl
no_pieces (p ∷ ps) e = absurd (let some : 0 < length (p ∷ ps) = omega arith in let none : length (p ∷ ps) ≤ 0 = grind (arith, nat_tests) in omega arith)

-- a flight that does not fly has nothing on the board
not_flying : (board : Board) (flight : Divided) → flies flight ≡ false → divided_movements board flight ≡ []
not_flying board flight e =
    none_made (λ date. piece_movements board flight.0 date flight.1) (range_with_len (first_date board) (date_end board - first_date board))
    (λ date. ap (piece_movements board flight.0 date) (no_pieces flight.1 e))

-- one flight more, if it flies
one_flight : (board : Board) (days : FlightNumber → Days) (flight : FlightNumber) (rest : List Divided) (later : List Movement) → all_movements board rest ≡ later
    → (b : Bool) → flies (divided days flight) ≡ b → all_movements board (cond b (divided days flight ∷ rest) rest) ≡ flight_movements board days flight ++ later
one_flight board days flight rest later h true e = ap₂ (λ ys zs. ys ++ zs) (of_flight board days flight) h
one_flight board days flight rest later h false e =
    h ∙ ap (λ ys. ys ++ later) (sym (not_flying board (divided days flight) e) ∙ of_flight board days flight)

of_flights : (board : Board) (days : FlightNumber → Days) (flights : List FlightNumber)
    → all_movements board (filter flies (map (divided days) flights)) ≡ flat_map (flight_movements board days) flights
of_flights board days [] = refl
of_flights board days (flight ∷ flights) =
    one_flight board days flight (filter flies (map (divided days) flights)) (flat_map (flight_movements board days) flights) (of_flights board days flights) (flies (divided days flight)) refl

pub of_timetable : (board : Board) (days : FlightNumber → Days) → all_movements board (divided_flights days) ≡ movements board days
unfolding movements
of_timetable board days = of_flights board days all_flights

-- ---- timetables that agree on the dates that can have something on the board

up_to_last : (day k : ℕ) (b : Bool) → nat_lt day 36524 ≡ b → k ≤ day + 1 → k < 36525 → k ≤ (if b then day + 1 else 36524)
up_to_last day k true e near within = near
up_to_last day k false e near within = omega arith

in_calendar : (k : ℕ) → k < 0 + day_count → k < 36525
in_calendar k to = let within : k < day_count = omega (arith, to) in subst (λ (n : ℕ). k < n) day_count-is within

module _ (board : Board) (near days : FlightNumber → Days) (agree : AgreeBetween (first_date board) (last_date board) near days) where
  same_on : (flight : FlightNumber) (k : ℕ) → k < 36525 → date_movements board flight (near flight) k ≡ date_movements board flight (days flight) k
  same_on flight k within = by (nat_lt (k + 10) board.day) (nat_lt (board.day + 1) k) refl refl
    where
      far : (k + 10 < board.day) ⊎ (board.day + 1 < k) → date_movements board flight (near flight) k ≡ date_movements board flight (days flight) k
      far out = only_near board flight (near flight) k out ∙ sym (only_near board flight (days flight) k out)

      by : (early late : Bool) → nat_lt (k + 10) board.day ≡ early → nat_lt (board.day + 1) k ≡ late
          → date_movements board flight (near flight) k ≡ date_movements board flight (days flight) k
      by true late e f = far (inl (grind (arith, nat_tests)))
      by false true e f = far (inr (grind (arith, nat_tests)))
      by false false e f =
          let low : board.day ≤ k + 10 = grind (arith, nat_tests) in
          let high : k ≤ board.day + 1 = grind (arith, nat_tests) in
          ap (flat_map (leg_movements board flight k)) (agree flight k (omega (arith, low)) (up_to_last board.day k (nat_lt board.day 36524) refl high within))

  pub near_same : movements board near ≡ movements board days
  unfolding movements
  near_same =
      same_made (flight_movements board near) (flight_movements board days) all_flights
      (λ flight. same_in (date_movements board flight (near flight)) (date_movements board flight (days flight)) 0 day_count (λ k from to. same_on flight k (in_calendar k to)))

-- ---- the time of each

abbrev pub IsTimed : Movement → Type 0
IsTimed movement = movement.time.minutes ≤ 1440

leg_timed : (board : Board) (flight : FlightNumber) (date : ℕ) → (leg : _) → Every IsTimed (leg_movements board flight date leg)
unfolding leg_movements movement
leg_timed board flight date leg =
    every_append IsTimed (end_movements board flight date leg Departure) (end_movements board flight date leg Arrival)
    (one (is_there board date leg Departure) (movement board flight date leg Departure) (end_near board.mode date leg.columns Departure).within)
    (one (is_there board date leg Arrival) (movement board flight date leg Arrival) (end_near board.mode date leg.columns Arrival).within)
  where
    one : (b : Bool) (m : Movement) → IsTimed m → Every IsTimed (if b then m ∷ [] else [])
    one true m h = (h, tt)
    one false m h = tt

date_timed : (board : Board) (flight : FlightNumber) (date : ℕ) (piece : Piece) → Every IsTimed (on_date board flight date piece)
date_timed board flight date piece = by (holds piece.0 date)
  where
    by : (b : Bool) → Every IsTimed (if b then flat_map (leg_movements board flight date) piece.1 else [])
    by true = every_made IsTimed (leg_movements board flight date) piece.1 (leg_timed board flight date)
    by false = tt

pub all_timed : (board : Board) (flights : List Divided) → Every IsTimed (all_movements board flights)
all_timed board flights =
    every_made IsTimed (divided_movements board) flights
    (λ flight. every_made IsTimed (λ date. piece_movements board flight.0 date flight.1) (range_with_len (first_date board) (date_end board - first_date board))
    (λ date. every_made IsTimed (on_date board flight.0 date) flight.1 (date_timed board flight.0 date)))
