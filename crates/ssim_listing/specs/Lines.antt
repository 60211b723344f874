-- The flights of a timetable as lines: their periods, and the legs of each.
use Rattle.std.specs.Prelude.{ℕ, List, [], ◌∷◌, ◌++◌, codes}
use Rattle.std.specs.List.{flat_map}
use Rattle.ssim_values.specs.Day.{day_text}
use Rattle.ssim_values.specs.DayMask.{places_of}
use Rattle.ssim_values.specs.Designator.{designator_text}
use Rattle.ssim_values.specs.Flight.{FlightNumber}
use Rattle.ssim_values.specs.Period.{DayRange}
use Rattle.ssim_base.specs.Export.{Piece, line}
use Rattle.ssim_base.specs.Timetable.{Legs}
use Rattle.ssim_schedule.specs.FlightPieces.{Divided}
use Rattle.ssim_listing.specs.LegText.{dotted}
use Rattle.ssim_listing.specs.Marks.{marked_line}

-- a flight of an airline as its designator
abbrev pub flight_name : List ℕ → FlightNumber → List ℕ
flight_name airline flight = designator_text (record { airline = airline; flight = flight })

-- The first day of a period, its last day, and its days of operation in seven characters: the digit
-- of each, or a full stop for a day without.
abbrev pub period_text : DayRange → List ℕ
period_text period =
    day_text period.first ++ 32 ∷ day_text period.last ++ 32 ∷ dotted (places_of period.days)

-- the legs of all pieces of a flight
abbrev pub legs_of : List Piece → Legs
legs_of pieces = flat_map (λ piece. piece.1) pieces

-- A piece of a flight with this name: its period, and a line for each leg. A leg is marked if one
-- of all legs of the flight differs from it, but has the same line.
abbrev pub piece_lines : List ℕ → Legs → Piece → List ℕ
piece_lines name all piece =
    line (name ++ 32 ∷ period_text piece.0) ++ flat_map (marked_line all) piece.1

-- the line of a flight that flies on no date
abbrev pub no_flight : List ℕ → List ℕ
no_flight name = line (name ++ codes " no flight")

-- a flight with this name: its pieces, or that there is none
abbrev pub flight_lines : List ℕ → List Piece → List ℕ
flight_lines name [] = no_flight name
flight_lines name (piece ∷ later) =
    flat_map (piece_lines name (legs_of (piece ∷ later))) (piece ∷ later)

-- the flights of an airline, each with its pieces
abbrev pub listing : List ℕ → List Divided → List ℕ
listing airline flights =
    flat_map (λ flight. flight_lines (flight_name airline flight.0) flight.1) flights
