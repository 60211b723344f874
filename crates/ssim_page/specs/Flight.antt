-- A flight on the page: the legs of its different itineraries, and its periods.
use Rattle.std.specs.Prelude.{ℕ, ◌+◌, nat_lt, if◌then◌else◌, List, [], ◌∷◌, ◌++◌, codes, length, map}
use Rattle.std.specs.Fmt.{decimal}
use Rattle.std.specs.List.{flat_map}
use Rattle.ssim_values.specs.Period.{DayRange}
use Rattle.ssim_base.specs.Export.{Piece, line, same_itinerary}
use Rattle.ssim_base.specs.Timetable.{LegValue, Legs}
use Rattle.ssim_listing.specs.Lines.{period_text}
use Rattle.ssim_listing.specs.Marks.{is_like_one_by, mark_text}
use Rattle.ssim_calendar.specs.Letters.{letter_at, new_values, place_of}
use Rattle.ssim_page.specs.LegRow.{leg_row}

-- ---- itineraries and their keys

-- the different itineraries of a flight, by first date
abbrev pub itineraries : List Piece → List Legs
itineraries pieces = new_values same_itinerary [] (map (λ piece. piece.1) pieces) (length pieces)

-- The key of the itinerary at a place: A to Z, a to z, as in the flight's calendar, and then 53, 54
-- and so on.
unfoldable pub key_at : ℕ → List ℕ
key_at place = if nat_lt place 52 then letter_at place ∷ [] else decimal (place + 1)

-- the key of an itinerary among the different ones
abbrev pub key_of : List Legs → Legs → List ℕ
key_of all legs = key_at (place_of same_itinerary all legs)

-- ---- lines

-- The line of a leg of the itinerary with this key. It is marked if one of the flight's legs has the
-- same row, but differs from it.
abbrev pub leg_line : List ℕ → Legs → LegValue → List ℕ
leg_line key others leg =
    key ++ codes " " ++ leg_row leg ++ mark_text (is_like_one_by leg_row others leg) ++ codes "\n"

-- the line of a period of the itinerary with this key: first day, last day and days of operation
abbrev pub period_line : List ℕ → DayRange → List ℕ
period_line key period = line (key ++ 32 ∷ period_text period)

-- the legs of all these itineraries
abbrev pub all_legs : List Legs → Legs
all_legs all = flat_map (λ legs. legs) all

-- the lines of an itinerary of the flight with these different ones
abbrev pub itinerary_lines : List Legs → Legs → List ℕ
itinerary_lines all legs = flat_map (leg_line (key_of all legs) (all_legs all)) legs

-- the line of a piece of the flight with these different itineraries
abbrev pub piece_line : List Legs → Piece → List ℕ
piece_line all piece = period_line (key_of all piece.1) piece.0

-- the lines of the different itineraries, and then those of the pieces
abbrev pub lines_among : List Legs → List Piece → List ℕ
lines_among all pieces = flat_map (itinerary_lines all) all ++ flat_map (piece_line all) pieces

-- The lines of a flight: the legs of each different itinerary once, and each of its periods.
unfoldable pub flight_lines : List Piece → List ℕ
flight_lines pieces = lines_among (itineraries pieces) pieces

-- ---- the article

-- the begin of the article of a flight: the heading has its name
unfoldable pub article_title : List ℕ → List ℕ
article_title name =
    codes "<article id=\"" ++ name ++ codes "\"><h3>" ++ name ++ codes "</h3><pre>\n"

-- the article of a flight with this name
unfoldable pub article : List ℕ → List Piece → List ℕ
article name pieces = article_title name ++ flight_lines pieces ++ codes "</pre></article>\n"
