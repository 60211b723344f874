-- The rows of the table `change`: a row for each leg of a period on which a flight differs from the
-- data set, on its old or its new side.
use Rattle.std.specs.Prelude.{ℕ, List, ◌∷◌, ◌++◌, codes, map}
use Rattle.std.specs.List.{flat_map}
use Rattle.ssim_values.specs.Flight.{FlightNumber}
use Rattle.ssim_values.specs.Period.{DayRange}
use Rattle.ssim_values.specs.declared.time_mode.TimeMode.{TimeMode}
use Rattle.ssim_base.specs.Export.{Piece}
use Rattle.ssim_base.specs.Timetable.{LegValue}
use Rattle.ssim_difference.specs.Differences.{Compared, DifferencePiece}
use Rattle.ssim_listing.specs.Lines.{flight_name}
use Rattle.ssim_sql.specs.LegRows.{FlightLeg, leg_values, period_values, piece_legs}
use Rattle.ssim_sql.specs.Literal.{quote}
use Rattle.ssim_sql.specs.Statements.{row_of}

-- a leg of a flight on a period on which it differs, and the side that has it: a row of `change`,
-- before it is text
pub record SideLeg : Type 0 where
  pub side : List ℕ
  pub leg : FlightLeg

-- the legs of a flight on a period, of this side
abbrev pub side_legs : List ℕ → FlightNumber → Piece → List SideLeg
side_legs side flight piece =
    map (λ leg. record { side = side; leg = leg }) (piece_legs flight piece)

-- the legs of a flight on a period on which it differs: those that the data set has there, and then
-- those that the desk has
abbrev pub both_legs : FlightNumber → DifferencePiece → List SideLeg
both_legs flight piece =
    side_legs (codes "old") flight (piece.0, piece.1.old)
    ++ side_legs (codes "new") flight (piece.0, piece.1.new)

-- the legs of the flights that differ, on the periods on which they do, in order
abbrev pub change_legs : List Compared → List SideLeg
change_legs flights = flat_map (λ flight. flat_map (both_legs flight.0) flight.1) flights

-- the row of a leg of a side: its values in the table `leg`, with the side between those of the
-- period and those of the leg
unfoldable pub side_row : List ℕ → List ℕ → TimeMode → List ℕ → DayRange → LegValue → List ℕ
side_row side name mode flight period leg = row_of name
    (period_values flight period ++ quote side ∷ leg_values mode leg.sequence leg.columns)

-- the row of a leg of a side of an airline's flight
abbrev pub change_row : List ℕ → TimeMode → List ℕ → SideLeg → List ℕ
change_row name mode airline it =
    side_row it.side name mode (flight_name airline it.leg.flight) it.leg.period it.leg.leg

-- the rows of an airline's flights that differ
abbrev pub change_rows : List ℕ → TimeMode → List ℕ → List Compared → List (List ℕ)
change_rows name mode airline flights =
    map (change_row name mode airline) (change_legs flights)
