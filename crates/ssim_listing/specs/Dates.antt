-- The flights of a timetable date by date.
use Rattle.std.specs.Prelude.{ℕ, List, [], ◌∷◌, ◌++◌, map}
use Rattle.std.specs.List.{flat_map, range_with_len}
use Rattle.ssim_values.specs.Day.{day_text}
use Rattle.ssim_values.specs.Period.{DayRange}
use Rattle.ssim_periods.specs.Calendar.{day_count}
use Rattle.ssim_periods.specs.Pieces.{held_on}
use Rattle.ssim_base.specs.Export.{Piece, line}
use Rattle.ssim_base.specs.Timetable.{LegValue, Legs}
use Rattle.ssim_schedule.specs.FlightPieces.{Divided}
use Rattle.ssim_listing.specs.LegText.{leg_text}
use Rattle.ssim_listing.specs.Lines.{flight_name, no_flight}

-- a date of a flight, with the legs on it
abbrev pub FlightDate : Type 0
FlightDate = ℕ × Legs

-- The dates of pieces on a day: one for each piece that holds the day, with its value. By the law
-- of pieces that is the piece with the legs of the day, or none if the flight does not fly.
abbrev pub dates_on : {V : Type 0} → List (DayRange × V) → ℕ → List (ℕ × V)
dates_on pieces day = map (λ value. (day, value)) (held_on pieces day)

-- the dates of pieces
abbrev pub dates_of : {V : Type 0} → List (DayRange × V) → List (ℕ × V)
dates_of pieces = flat_map (dates_on pieces) (range_with_len 0 day_count)

-- the flight, the date and a leg on it
abbrev pub date_line : List ℕ → ℕ → LegValue → List ℕ
date_line name day leg = line (name ++ 32 ∷ day_text day ++ 32 ∷ leg_text leg)

-- a line for each leg of a flight with this name on a date
abbrev pub date_lines : List ℕ → FlightDate → List ℕ
date_lines name date = flat_map (date_line name date.0) date.1

-- a flight with this name: its dates, or that it flies on none
abbrev pub dated_lines : List ℕ → List Piece → List ℕ
dated_lines name [] = no_flight name
dated_lines name (piece ∷ later) = flat_map (date_lines name) (dates_of (piece ∷ later))

-- the flights of an airline, each date by date
abbrev pub dated_listing : List ℕ → List Divided → List ℕ
dated_listing airline flights =
    flat_map (λ flight. dated_lines (flight_name airline flight.0) flight.1) flights
