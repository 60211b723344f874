-- On dates of origin that are too early for the legs of a flight it has nothing on the board.
use Rattle.std.proofs.Common.{◌≡◌, ◌⊎◌, inl, inr, ℕ, ◌+◌, ◌-◌, ◌<◌, ◌≤◌, nat_eq, nat_lt, Bool, true, false, ◌&&◌, if◌then◌else◌, List, [], ◌∷◌, ◌++◌, refl, ap, ap₂, ◌∙◌, arith}
use Rattle.std.specs.List.{AllByRecursion as Every, flat_map, range_with_len}
use Rattle.std.specs.Str.{bytes_eq}
use Rattle.std.proofs.lemmas.Bool.Decides.{nat_tests}
use Rattle.ssim_values.specs.Flight.{FlightNumber}
use Rattle.ssim_periods.specs.Calendar.{holds}
use Rattle.ssim_base.specs.Export.{Piece}
use Rattle.ssim_base.specs.Timetable.{LegValue, Legs}
use Rattle.ssim_listing.proofs.Ranges.{none_in, split_at}
use Rattle.ssim_board.specs.LocalTime.{Moment}
use Rattle.ssim_board.specs.Movements.{is_there, leg_movements, movement, station_of, time_of}
use Rattle.ssim_board.specs.internal.DaysThere.{AreWithin, IsWithin, days_after, days_of_end}
use Rattle.ssim_board.specs.internal.PieceMovements.{date_end, piece_movements}
use Rattle.ssim_board.specs.declared.board.Board.{Board}
use Rattle.ssim_board.specs.declared.movement.MovementKind.{MovementKind}
use Rattle.ssim_board.specs.declared.movement.MovementKind.TheVariants.{Departure, Arrival}
use Rattle.ssim_board.proofs.Near.{IsNear, end_near}

-- ---- more days

pub more_legs : (board : Board) (d e : ℕ) (legs : Legs) → d ≤ e → Every (IsWithin board d) legs
    → Every (IsWithin board e) legs
more_legs board d e [] more h = tt
more_legs board d e (leg ∷ legs) more h = (omega (arith, h.0, more), more_legs board d e legs more h.1)

pub more_pieces : (board : Board) (d e : ℕ) (pieces : List Piece) → d ≤ e → AreWithin board d pieces
    → AreWithin board e pieces
more_pieces board d e [] more h = tt
more_pieces board d e (piece ∷ pieces) more h =
    (more_legs board d e piece.1 more h.0, more_pieces board d e pieces more h.1)

-- ---- dates of origin on which nothing is there

-- a flight with these days has no leg at the station, or the date of origin is too early for them
abbrev pub IsEarly : Board → ℕ → ℕ → Type 0
IsEarly board days date = (days ≡ 0) ⊎ (date + days < board.day)

elsewhere : (day days date added : ℕ) (b : Bool) (time : Moment)
    → (if b then added + 1 else 0) ≤ days → IsNear (date + added + 1) time
    → (days ≡ 0) ⊎ (date + days < day) → (b && nat_eq time.days (day + 1)) ≡ false
elsewhere day days date added false time some near out = refl
elsewhere day days date added true time some near (inl none) = absurd (omega (arith, some, none))
elsewhere day days date added true time some near (inr early) =
    let far = near.after in grind (arith, nat_tests)

module _ (board : Board) (flight : FlightNumber) (days date : ℕ) (early : IsEarly board days date) where
  end_elsewhere : (leg : LegValue) (kind : MovementKind) → days_of_end board leg.columns kind ≤ days
      → is_there board date leg kind ≡ false
  unfolding is_there
  end_elsewhere leg kind some =
      elsewhere board.day days date (days_after leg.columns kind)
      (bytes_eq (station_of leg.columns kind) board.station) (time_of board.mode date leg.columns kind)
      some (end_near board.mode date leg.columns kind) early

  leg_elsewhere : (leg : LegValue) → IsWithin board days leg → leg_movements board flight date leg ≡ []
  unfolding leg_movements
  leg_elsewhere leg h =
      ap₂ (λ (a b : Bool). (if a then movement board flight date leg Departure ∷ [] else [])
      ++ (if b then movement board flight date leg Arrival ∷ [] else []))
      (end_elsewhere leg Departure (omega (arith, h))) (end_elsewhere leg Arrival (omega (arith, h)))

  legs_elsewhere : (legs : Legs) → Every (IsWithin board days) legs
      → flat_map (leg_movements board flight date) legs ≡ []
  legs_elsewhere [] h = refl
  legs_elsewhere (leg ∷ legs) h = ap₂ (λ ys zs. ys ++ zs) (leg_elsewhere leg h.0) (legs_elsewhere legs h.1)

  piece_elsewhere : (piece : Piece) (b : Bool) → Every (IsWithin board days) piece.1
      → (if b then flat_map (leg_movements board flight date) piece.1 else []) ≡ []
  piece_elsewhere piece true h = legs_elsewhere piece.1 h
  piece_elsewhere piece false h = refl

  pub none_there : (pieces : List Piece) → AreWithin board days pieces
      → piece_movements board flight date pieces ≡ []
  none_there [] h = refl
  none_there (piece ∷ pieces) h =
      ap₂ (λ ys zs. ys ++ zs) (piece_elsewhere piece (holds piece.0 date) h.0) (none_there pieces h.1)

-- ---- a range of dates

-- a function that makes nothing of the first numbers of a range makes of it what it makes of the rest
pub made_later : {Y : Type 0} (f : ℕ → List Y) (first from end : ℕ) → first ≤ from → from ≤ end
    → ((k : ℕ) → k < from → f k ≡ [])
    → flat_map f (range_with_len first (end - first)) ≡ flat_map f (range_with_len from (end - from))
made_later f first from end low high none =
    split_at f first (from - first) (end - from) (end - first) from (omega arith) (omega arith)
    ∙ ap (λ ys. ys ++ flat_map f (range_with_len from (end - from)))
    (none_in f first (from - first) (λ k begin end. none k (omega arith)))

-- a range that was gone through to its end
pub all_counted : (n from end : ℕ) → end ≤ n → n - from ≤ end - from → n - from ≡ end - from
all_counted n from end past within = omega arith

-- the day of a board is before the end of the dates that can have something on it
pub day_before_end : (board : Board) (days : ℕ) → board.day ≤ 36524
    → board.day - days ≤ date_end board
day_before_end board days within = by (nat_lt board.day 36524) refl
  where
    by : (b : Bool) → nat_lt board.day 36524 ≡ b
        → board.day - days ≤ (if b then board.day + 1 else 36524) + 1
    by true e = omega arith
    by false e = omega (arith, within)
