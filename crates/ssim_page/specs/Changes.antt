-- The changes on the page: the periods on which flights differ from an earlier timetable.
use Rattle.std.specs.Prelude.{ℕ, List, [], ◌∷◌, ◌++◌, codes}
use Rattle.std.specs.List.{flat_map}
use Rattle.ssim_values.specs.Period.{DayRange}
use Rattle.ssim_difference.specs.Differences.{Compared, DifferencePiece}
use Rattle.ssim_difference.specs.Lines.{difference_legs}
use Rattle.ssim_difference.specs.declared.difference.Difference.{Difference}
use Rattle.ssim_listing.specs.Lines.{flight_name}
use Rattle.ssim_page.specs.Html.{escaped}
use Rattle.ssim_page.specs.Link.{dated_link}

-- the begin of a change: a link to the flight, and the period
unfoldable pub change_title : List ℕ → DayRange → List ℕ
change_title name period = codes "<article><h3>" ++ dated_link name period ++ codes "</h3><pre>\n"

-- the lines of `diff` of the old and the new itinerary
unfoldable pub change_lines : Difference → List ℕ
change_lines difference = escaped (difference_legs difference)

-- The article of a period on which the flight with this name differs: the lines of its old and new
-- legs, as `diff` prints them.
unfoldable pub change : List ℕ → DifferencePiece → List ℕ
change name piece = change_title name piece.0 ++ change_lines piece.1 ++ codes "</pre></article>\n"

-- the articles of the periods on which flights of an airline differ
abbrev pub change_articles : List ℕ → List Compared → List ℕ
change_articles airline flights =
    flat_map (λ flight. flat_map (change (flight_name airline flight.0)) flight.1) flights

-- the section of the changes
unfoldable pub change_section : List ℕ → List Compared → List ℕ
change_section airline flights = codes "<section id=\"changes\"><h2>Changes</h2>\n"
    ++ change_articles airline flights ++ codes "</section>\n"

-- the changes of an airline's flights; nothing if no flight differs
abbrev pub changes : List ℕ → List Compared → List ℕ
changes airline [] = []
changes airline (flight ∷ flights) = change_section airline (flight ∷ flights)
