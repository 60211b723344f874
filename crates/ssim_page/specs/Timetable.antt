-- The timetable of an airline on the page: all its flights.
use Rattle.std.specs.Prelude.{ℕ, List, [], ◌∷◌, ◌++◌, codes, fold, max, min, Option, None, Some}
use Rattle.std.specs.List.{flat_map}
use Rattle.ssim_values.specs.Day.{day_text}
use Rattle.ssim_values.specs.Period.{DayRange}
use Rattle.ssim_base.specs.Export.{Piece}
use Rattle.ssim_schedule.specs.FlightPieces.{Divided}
use Rattle.ssim_listing.specs.Lines.{flight_name}
use Rattle.ssim_page.specs.Flight.{article}

-- a first and a last day, if there are any, after one more period
abbrev pub widened : Option (ℕ × ℕ) → DayRange → Option (ℕ × ℕ)
widened None period = Some (period.first, period.last)
widened (Some days) period = Some (min days.0 period.first, max days.1 period.last)

-- the first and the last day after these pieces, too
abbrev pub widened_by : Option (ℕ × ℕ) → List Piece → Option (ℕ × ℕ)
widened_by days pieces = fold (λ so_far piece. widened so_far piece.0) days pieces

-- the first day of the first period of the flights, and the last day of the last
abbrev pub days_of_all : List Divided → Option (ℕ × ℕ)
days_of_all flights = fold (λ so_far flight. widened_by so_far flight.1) None flights

-- a blank and the first day, a blank and the last; nothing if there is no period
abbrev pub days_text : Option (ℕ × ℕ) → List ℕ
days_text None = []
days_text (Some days) = 32 ∷ day_text days.0 ++ 32 ∷ day_text days.1

-- the begin of the timetable: its heading has the first and the last day
unfoldable pub timetable_title : List Divided → List ℕ
timetable_title flights = codes "<section id=\"timetable\"><h2>Timetable"
    ++ days_text (days_of_all flights) ++ codes "</h2>\n"

-- the articles of an airline's flights
abbrev pub articles : List ℕ → List Divided → List ℕ
articles airline flights =
    flat_map (λ flight. article (flight_name airline flight.0) flight.1) flights

-- the timetable of an airline's flights
unfoldable pub timetable : List ℕ → List Divided → List ℕ
timetable airline flights =
    timetable_title flights ++ articles airline flights ++ codes "</section>\n"
