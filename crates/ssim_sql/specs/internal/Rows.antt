-- The rows of flights as the code goes over them: of each flight, of each period, of each leg.
use Rattle.std.specs.Prelude.{ℕ, List, [], ◌∷◌, ◌++◌, codes}
use Rattle.std.specs.List.{flat_map}
use Rattle.ssim_values.specs.declared.time_mode.TimeMode.{TimeMode}
use Rattle.ssim_base.specs.Export.{Piece}
use Rattle.ssim_difference.specs.Differences.{Compared, DifferencePiece}
use Rattle.ssim_listing.specs.Lines.{flight_name}
use Rattle.ssim_schedule.specs.FlightPieces.{Divided}
use Rattle.ssim_sql.specs.ChangeRows.{side_row}
use Rattle.ssim_sql.specs.LegRows.{RowsOfLeg, one_row}
use Rattle.ssim_sql.specs.SegmentRows.{segment_rows}
use Rattle.ssim_sql.specs.declared.flights.LegTable.{LegTable}
use Rattle.ssim_sql.specs.declared.flights.LegTable.TheVariants.{Legs, New, Old, Segments}

-- the row of a leg of a side
abbrev pub one_side_row : List ℕ → RowsOfLeg
one_side_row side name mode flight period leg = side_row side name mode flight period leg ∷ []

-- the rows of a leg in a table
abbrev pub rows_in : LegTable → RowsOfLeg
rows_in Legs = one_row
rows_in Segments = segment_rows
rows_in Old = one_side_row (codes "old")
rows_in New = one_side_row (codes "new")

-- the rows of a piece of the flight with this name
abbrev pub piece_rows : RowsOfLeg → List ℕ → TimeMode → List ℕ → Piece → List (List ℕ)
piece_rows rows name mode flight piece = flat_map (rows name mode flight piece.0) piece.1

-- the rows of a flight of an airline
abbrev pub pieces_rows : RowsOfLeg → List ℕ → TimeMode → List ℕ → Divided → List (List ℕ)
pieces_rows rows name mode airline flight =
    flat_map (piece_rows rows name mode (flight_name airline flight.0)) flight.1

-- the rows of a period on which the flight with this name differs
abbrev pub both_rows : List ℕ → TimeMode → List ℕ → DifferencePiece → List (List ℕ)
both_rows name mode flight piece =
    piece_rows (rows_in Old) name mode flight (piece.0, piece.1.old)
    ++ piece_rows (rows_in New) name mode flight (piece.0, piece.1.new)

-- the rows of a flight of an airline that differs
abbrev pub differing_rows : List ℕ → TimeMode → List ℕ → Compared → List (List ℕ)
differing_rows name mode airline flight =
    flat_map (both_rows name mode (flight_name airline flight.0)) flight.1
