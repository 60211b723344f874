-- Which message acted last on each date of flights, as CSV: a row for each period.
use Rattle.std.specs.Prelude.{ℕ, List, [], ◌∷◌, ◌++◌, codes}
use Rattle.std.specs.Fmt.{decimal}
use Rattle.std.specs.List.{flat_map}
use Rattle.ssim_text.specs.Lines.{identifier_text}
use Rattle.ssim_text.specs.Reference.{printed_reference}
use Rattle.ssim_listing.specs.Lines.{flight_name}
use Rattle.ssim_listing.specs.Rows.{period_head, row}
use Rattle.ssim_blame.specs.Makers.{Blamed, MakerPiece}
use Rattle.ssim_blame.specs.declared.maker.Maker.{Maker}
use Rattle.ssim_blame.specs.declared.maker.Maker.TheVariants.{Nobody, DataSet, Sub}

-- the names of the fields
abbrev pub blame_names : List (List ℕ)
blame_names =
    codes "flight" ∷ codes "first" ∷ codes "last" ∷ codes "days" ∷ codes "reference"
    ∷ codes "sub" ∷ codes "action" ∷ []

-- a maker as three fields: the reference, the number and the action of a sub-message, or `data set`
abbrev pub maker_fields : Maker → List (List ℕ)
maker_fields Nobody = [] ∷ [] ∷ [] ∷ []
maker_fields DataSet = codes "data set" ∷ [] ∷ [] ∷ []
maker_fields (Sub name) =
    printed_reference name.reference ∷ decimal name.sub ∷ identifier_text name.action ∷ []

-- the row of a piece of a flight with this name
abbrev pub piece_row : List ℕ → MakerPiece → List ℕ
piece_row name piece = row (period_head name piece.0 ++ maker_fields piece.1)

-- the rows of a flight of an airline; no row if it has no piece
abbrev pub blamed_rows : List ℕ → Blamed → List ℕ
blamed_rows airline flight = flat_map (piece_row (flight_name airline flight.0)) flight.1

-- the names of the fields, and the rows of flights of an airline
abbrev pub blame_rows : List ℕ → List Blamed → List ℕ
blame_rows airline flights = row blame_names ++ flat_map (blamed_rows airline) flights
