-- The differences of two timetables as rows of CSV.
use Rattle.std.specs.Prelude.{ℕ, if◌then◌else◌, List, [], ◌∷◌, ◌++◌}
use Rattle.std.specs.Prelude.{Option, Some, None, codes}
use Rattle.std.specs.List.{flat_map}
use Rattle.ssim_values.specs.Flight.{FlightNumber}
use Rattle.ssim_base.specs.Export.{same_leg}
use Rattle.ssim_base.specs.Timetable.{Days, LegValue, Legs}
use Rattle.ssim_listing.specs.Lines.{flight_name}
use Rattle.ssim_listing.specs.Rows.{leg_names, leg_row, period_head, row}
use Rattle.ssim_difference.specs.Differences.{Compared, DifferencePiece, differences}
use Rattle.ssim_difference.specs.Kinds.{kind_name, kind_of}
use Rattle.ssim_difference.specs.Lines.{leg_at, sequences}

-- the names of the fields
abbrev pub difference_names : List (List ℕ)
difference_names =
    codes "flight" ∷ codes "first" ∷ codes "last" ∷ codes "days" ∷ codes "change"
    ∷ codes "side" ∷ leg_names

-- the row of a leg of a side, after these fields
abbrev pub side_row : List (List ℕ) → List ℕ → LegValue → List ℕ
side_row head side leg = leg_row (head ++ side ∷ []) leg

-- the row of an old and a new leg that are equal, or the rows of both
abbrev pub both_rows : List (List ℕ) → LegValue → LegValue → List ℕ
both_rows head old new =
    if same_leg old new then side_row head (codes "both") old
    else side_row head (codes "old") old ++ side_row head (codes "new") new

-- the rows of the old and the new leg of one sequence, each of which may be missing
abbrev pub pair_rows : List (List ℕ) → Option LegValue → Option LegValue → List ℕ
pair_rows head None None = []
pair_rows head (Some old) None = side_row head (codes "old") old
pair_rows head None (Some new) = side_row head (codes "new") new
pair_rows head (Some old) (Some new) = both_rows head old new

-- the rows of the legs with a sequence
abbrev pub sequence_rows : List (List ℕ) → Legs → Legs → ℕ → List ℕ
sequence_rows head old new sequence = pair_rows head (leg_at old sequence) (leg_at new sequence)

-- the rows of old and new legs, by sequence; the kind of the change is the last of the fields before
-- the side
abbrev pub changed_rows : List (List ℕ) → Legs → Legs → List ℕ
changed_rows head old new =
    flat_map (sequence_rows (head ++ kind_name (kind_of old new) ∷ []) old new) sequences

-- the rows of a period on which a flight with this name differs
abbrev pub piece_rows : List ℕ → DifferencePiece → List ℕ
piece_rows name piece = changed_rows (period_head name piece.0) piece.1.old piece.1.new

-- the rows of the periods on which a flight differs
abbrev pub flight_rows : List ℕ → Compared → List ℕ
flight_rows airline flight = flat_map (piece_rows (flight_name airline flight.0)) flight.1

-- the names of the fields, and the rows of the flights that differ
abbrev pub listed_rows : List ℕ → List Compared → List ℕ
listed_rows airline flights = row difference_names ++ flat_map (flight_rows airline) flights

-- the rows of two timetables of an airline
abbrev pub difference_rows : List ℕ → (FlightNumber → Days) → (FlightNumber → Days) → List ℕ
difference_rows airline old new = listed_rows airline (differences old new)
