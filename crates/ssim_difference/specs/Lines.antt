-- The differences of two timetables as lines.
use Rattle.std.specs.Prelude.{ℕ, nat_eq, if◌then◌else◌, List, [], ◌∷◌, ◌++◌, length, codes}
use Rattle.std.specs.Prelude.{Option, Some, None}
use Rattle.std.specs.Fmt.{decimal}
use Rattle.std.specs.List.{find, flat_map, range_with_len}
use Rattle.ssim_values.specs.Flight.{FlightNumber}
use Rattle.ssim_base.specs.Export.{line, same_leg}
use Rattle.ssim_base.specs.Timetable.{Days, LegValue, Legs}
use Rattle.ssim_listing.specs.LegText.{leg_text}
use Rattle.ssim_listing.specs.Lines.{flight_name, period_text}
use Rattle.ssim_listing.specs.Marks.{is_like, mark_text}
use Rattle.ssim_difference.specs.Differences.{Compared, DifferencePiece, date_count, differences}
use Rattle.ssim_difference.specs.declared.difference.Difference.{Difference}

-- ---- the legs of a period

-- the line of a leg, after two characters and before a mark
abbrev pub signed_line : List ℕ → LegValue → List ℕ → List ℕ
signed_line sign leg mark = line (sign ++ leg_text leg ++ mark)

-- The lines of an old and a new leg that differ. Both are marked if they have the same text.
abbrev pub changed_lines : LegValue → LegValue → List ℕ
changed_lines old new =
    let mark = mark_text (is_like old new) in
    signed_line (codes "- ") old mark ++ signed_line (codes "+ ") new mark

-- the line of an old and a new leg that are equal, or the lines of both
abbrev pub both_lines : LegValue → LegValue → List ℕ
both_lines old new =
    if same_leg old new then signed_line (codes "  ") old [] else changed_lines old new

-- the lines of the old and the new leg of one sequence, each of which may be missing
abbrev pub pair_lines : Option LegValue → Option LegValue → List ℕ
pair_lines None None = []
pair_lines (Some old) None = signed_line (codes "- ") old []
pair_lines None (Some new) = signed_line (codes "+ ") new []
pair_lines (Some old) (Some new) = both_lines old new

-- the leg with a sequence
abbrev pub leg_at : Legs → ℕ → Option LegValue
leg_at legs sequence = find (λ leg. nat_eq leg.sequence sequence) legs

-- the leg sequences from 1 to 99; opaque, so that the list is never written out
unfoldable pub sequences : List ℕ
sequences = range_with_len 1 99

-- the lines of the legs with a sequence
abbrev pub sequence_lines : Legs → Legs → ℕ → List ℕ
sequence_lines old new sequence = pair_lines (leg_at old sequence) (leg_at new sequence)

-- a line if there are no legs
abbrev pub none_line : List ℕ → Legs → List ℕ
none_line text [] = line text
none_line text (leg ∷ legs) = []

-- The lines of old and new legs, by sequence. If there is no old leg, a line of its own comes
-- first; if there is no new one, a line of its own comes last.
abbrev pub changed_legs : Legs → Legs → List ℕ
changed_legs old new =
    none_line (codes "- no flight") old
    ++ (flat_map (sequence_lines old new) sequences ++ none_line (codes "+ no flight") new)

-- the lines of the old and the new itinerary of a difference
abbrev pub difference_legs : Difference → List ℕ
difference_legs d = changed_legs d.old d.new

-- ---- the flights

-- the lines of a period on which a flight with this name differs
abbrev pub piece_lines : List ℕ → DifferencePiece → List ℕ
piece_lines name piece = line (name ++ 32 ∷ period_text piece.0) ++ difference_legs piece.1

-- the lines of the periods on which a flight differs
abbrev pub flight_lines : List ℕ → Compared → List ℕ
flight_lines airline flight = flat_map (piece_lines (flight_name airline flight.0)) flight.1

-- the last line: whether the timetables are the same, or how many flights differ, and on how many
-- dates
abbrev pub last_line : List Compared → ℕ → List ℕ
last_line [] dates = line (codes "same")
last_line (flight ∷ flights) dates =
    line (codes "different flights " ++ decimal (length (flight ∷ flights)) ++ codes " dates "
    ++ decimal dates)

-- the lines of the flights that differ, and the last line
abbrev pub listed_lines : List ℕ → List Compared → ℕ → List ℕ
listed_lines airline flights dates =
    flat_map (flight_lines airline) flights ++ last_line flights dates

-- the lines of two timetables of an airline
abbrev pub difference_lines : List ℕ → (FlightNumber → Days) → (FlightNumber → Days) → List ℕ
difference_lines airline old new =
    listed_lines airline (differences old new) (date_count old new)
