-- The calendars of flights, as they are printed.
use Rattle.std.specs.Prelude.{ℕ, Bool, List, [], ◌∷◌, ◌++◌, map, take, codes}
use Rattle.std.specs.List.{list_any}
use Rattle.ssim_values.specs.Designator.{designator_text}
use Rattle.ssim_values.specs.Flight.{FlightNumber}
use Rattle.ssim_values.specs.declared.designator.Designator.{Designator}
use Rattle.ssim_base.specs.Export.{line, same_itinerary}
use Rattle.ssim_base.specs.Timetable.{Days, LegValue, Legs}
use Rattle.ssim_calendar.specs.Legend.{legend}
use Rattle.ssim_calendar.specs.Letters.{cells, different}
use Rattle.ssim_calendar.specs.Picture.{picture}
use Rattle.ssim_listing.specs.LegText.{leg_text}
use Rattle.ssim_listing.specs.Marks.{is_like_one, mark_text}
use Rattle.ssim_program.specs.print.Blocks.{blocks}

-- whether a leg of one of the itineraries differs from this leg, but has the same line
abbrev pub is_like_any : List Legs → LegValue → Bool
is_like_any itineraries leg = list_any (λ legs. is_like_one legs leg) itineraries

-- The line of a leg in the legend, without its end: marked if a leg of one of the flight's
-- itineraries differs from it, but has the same line.
abbrev pub legend_text : List Legs → LegValue → List ℕ
legend_text itineraries leg = leg_text leg ++ mark_text (is_like_any itineraries leg)

-- the itineraries that have a letter of their own, which are the first 52
abbrev pub lettered : List Legs → List Legs
lettered itineraries = take 52 itineraries

-- for each itinerary with a letter of its own the lines of its legs
abbrev pub legend_texts : List Legs → List (List (List ℕ))
legend_texts itineraries = map (map (legend_text itineraries)) (lettered itineraries)

-- the picture of a flight, and the legend of its itineraries
abbrev pub drawn : Designator → List Legs → List ℕ → List ℕ
drawn designator itineraries letters =
    picture (designator_text designator) letters ++ legend (legend_texts itineraries) letters

-- The calendar of a flight with these itineraries, by first date, and this letter on each day. If
-- the flight has no itinerary, it is one line.
abbrev pub drawn_or_none : Designator → List Legs → List ℕ → List ℕ
drawn_or_none designator [] letters = line (designator_text designator ++ codes " no flight")
drawn_or_none designator (first ∷ later) letters = drawn designator (first ∷ later) letters

-- the calendar of a flight by its legs on each day
abbrev pub calendar_lines : Designator → List Legs → List ℕ
calendar_lines designator days =
    drawn_or_none designator (different same_itinerary [] days) (cells same_itinerary [] days)

-- the calendar of a flight of an airline
abbrev pub flight_calendar : List ℕ → (FlightNumber → Days) → FlightNumber → List ℕ
flight_calendar airline days flight =
    calendar_lines (record { airline = airline; flight = flight }) (days flight)

-- the calendars of flights of an airline, with an empty line between two
abbrev pub calendars : List ℕ → (FlightNumber → Days) → List FlightNumber → List ℕ
calendars airline days flights = blocks (map (flight_calendar airline days) flights)
