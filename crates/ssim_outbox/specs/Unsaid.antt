-- The lines of what no messages can say: for each flight the periods of the dates on which it still
-- differs, each with the reason.
use Rattle.std.specs.Prelude.{ℕ, if◌then◌else◌, List, [], ◌∷◌, ◌++◌, codes}
use Rattle.std.specs.List.{flat_map}
use Rattle.std.specs.Str.{bytes_eq}
use Rattle.ssim_values.specs.Flight.{FlightNumber}
use Rattle.ssim_values.specs.Period.{DayRange}
use Rattle.ssim_periods.specs.Days.{each_day}
use Rattle.ssim_periods.specs.Pieces.{pieces_of}
use Rattle.ssim_base.specs.Export.{line}
use Rattle.ssim_base.specs.Stations.{Row}
use Rattle.ssim_base.specs.Timetable.{Days, on_day}
use Rattle.ssim_listing.specs.Lines.{flight_name, period_text}
use Rattle.ssim_difference.specs.Differences.{differences, differs_on}
use Rattle.ssim_outbox.specs.Reason.{reason_words}

-- the reason of a day on which a flight differs; no words on other days
abbrev pub reason_on : List Row → Days → Days → ℕ → List ℕ
reason_on rows old new n =
    if differs_on old new n then reason_words rows n (on_day old n) (on_day new n) else []

-- a period with the words of a reason, each of which has a blank before it
abbrev pub ReasonPiece : Type 0
ReasonPiece = DayRange × List ℕ

-- The canonical division of the dates on which a flight differs by their reasons. Exactly one piece
-- holds each of these dates, the one with its reason, and no piece holds another date.
abbrev pub unsaid_pieces : List Row → Days → Days → List ReasonPiece
unsaid_pieces rows old new = pieces_of bytes_eq [] (each_day (reason_on rows old new))

-- the line of a piece of a flight with this name: its period, and the reason
abbrev pub unsaid_line : List ℕ → ReasonPiece → List ℕ
unsaid_line name piece = line (codes "unsaid " ++ name ++ 32 ∷ period_text piece.0 ++ piece.1)

-- the lines of the pieces of a flight of an airline
abbrev pub flight_lines : List ℕ → FlightNumber → List ReasonPiece → List ℕ
flight_lines airline flight pieces = flat_map (unsaid_line (flight_name airline flight)) pieces

-- the lines of an airline: those of the flights that differ in two timetables, in their order
abbrev pub unsaid_lines : List ℕ → List Row → (FlightNumber → Days) → (FlightNumber → Days)
    → List ℕ
unsaid_lines airline rows old new =
    flat_map
    (λ flight. flight_lines airline flight.0 (unsaid_pieces rows (old flight.0) (new flight.0)))
    (differences old new)
