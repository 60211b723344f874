-- The listings by either division of a flight: into its periods, or into its dates.
use Rattle.std.specs.Prelude.{ℕ, List, ◌++◌}
use Rattle.std.specs.List.{flat_map}
use Rattle.ssim_base.specs.Export.{Piece}
use Rattle.ssim_schedule.specs.FlightPieces.{Divided}
use Rattle.ssim_listing.specs.Dates.{date_lines, dated_lines, dates_of}
use Rattle.ssim_listing.specs.Lines.{flight_lines, flight_name, legs_of, piece_lines}
use Rattle.ssim_listing.specs.Rows.{date_rows, header, piece_rows, row}
use Rattle.ssim_listing.specs.declared.division.Division.{Division}
use Rattle.ssim_listing.specs.declared.division.Division.TheVariants.{Periods, Dates}

-- the lines of the pieces or of the dates of a flight with this name
abbrev pub part_lines : Division → List ℕ → List Piece → List ℕ
part_lines Periods name pieces = flat_map (piece_lines name (legs_of pieces)) pieces
part_lines Dates name pieces = flat_map (date_lines name) (dates_of pieces)

-- the lines of a flight with this name, or that it flies on no date
abbrev pub divided_lines : Division → List ℕ → List Piece → List ℕ
divided_lines Periods name pieces = flight_lines name pieces
divided_lines Dates name pieces = dated_lines name pieces

-- the lines of the flights of an airline
abbrev pub divided_listing : Division → List ℕ → List Divided → List ℕ
divided_listing division airline flights =
    flat_map (λ flight. divided_lines division (flight_name airline flight.0) flight.1) flights

-- the rows of a flight with this name
abbrev pub divided_rows : Division → List ℕ → List Piece → List ℕ
divided_rows Periods name pieces = flat_map (piece_rows name) pieces
divided_rows Dates name pieces = flat_map (date_rows name) (dates_of pieces)

-- the rows of the flights of an airline, after the names of the columns
abbrev pub divided_csv_listing : Division → List ℕ → List Divided → List ℕ
divided_csv_listing division airline flights = row header
    ++ flat_map (λ flight. divided_rows division (flight_name airline flight.0) flight.1) flights
