-- Which message acted last on each date of flights, as lines: a line for each period.
use Rattle.std.specs.Prelude.{ℕ, List, [], ◌∷◌, ◌++◌, codes}
use Rattle.std.specs.Fmt.{decimal}
use Rattle.std.specs.List.{flat_map}
use Rattle.ssim_base.specs.Export.{line}
use Rattle.ssim_text.specs.Lines.{identifier_text}
use Rattle.ssim_text.specs.Reference.{printed_reference}
use Rattle.ssim_listing.specs.Lines.{flight_name, no_flight, period_text}
use Rattle.ssim_blame.specs.Makers.{Blamed, MakerPiece}
use Rattle.ssim_blame.specs.declared.maker.Maker.{Maker}
use Rattle.ssim_blame.specs.declared.maker.Maker.TheVariants.{Nobody, DataSet, Sub}

-- a maker in words: a sub-message by its reference, its number and its action, as in `history`
abbrev pub maker_text : Maker → List ℕ
maker_text Nobody = []
maker_text DataSet = codes "data set"
maker_text (Sub name) =
    printed_reference name.reference ++ 32 ∷ decimal name.sub
    ++ 32 ∷ identifier_text name.action

-- the line of a piece of a flight with this name: its period, and the maker
abbrev pub piece_line : List ℕ → MakerPiece → List ℕ
piece_line name piece = line (name ++ 32 ∷ period_text piece.0 ++ 32 ∷ maker_text piece.1)

-- the lines of a flight with this name: of its pieces, or that there is none
abbrev pub flight_lines : List ℕ → List MakerPiece → List ℕ
flight_lines name [] = no_flight name
flight_lines name (piece ∷ later) = flat_map (piece_line name) (piece ∷ later)

-- the lines of a flight of an airline
abbrev pub blamed_lines : List ℕ → Blamed → List ℕ
blamed_lines airline flight = flight_lines (flight_name airline flight.0) flight.1

-- the lines of flights of an airline
abbrev pub blame_lines : List ℕ → List Blamed → List ℕ
blame_lines airline flights = flat_map (blamed_lines airline) flights
