-- A timetable as a page of HTML.
use Rattle.std.specs.Prelude.{ℕ, List, ◌++◌, codes}
use Rattle.ssim_values.specs.Airline.{airline_text}
use Rattle.ssim_values.specs.declared.time_mode.TimeMode.{TimeMode}
use Rattle.ssim_values.specs.declared.time_mode.TimeMode.TheVariants.{Utc, Local}
use Rattle.ssim_schedule.specs.FlightPieces.{Divided}
use Rattle.ssim_difference.specs.Differences.{Compared}
use Rattle.ssim_page.specs.Changes.{changes}
use Rattle.ssim_page.specs.Html.{escaped}
use Rattle.ssim_page.specs.Messages.{messages}
use Rattle.ssim_page.specs.Timetable.{timetable}
use Rattle.ssim_page.specs.declared.heading.PageHeading.{PageHeading}
use Rattle.ssim_page.specs.declared.look.bar.TheConstants.{BAR}
use Rattle.ssim_page.specs.declared.look.style.TheConstants.{LOOK}
use Rattle.ssim_page.specs.declared.look.timetable_script.TheConstants.{TIMETABLE_SCRIPT}
use Rattle.ssim_page.specs.declared.look.view_script.TheConstants.{VIEW_SCRIPT}

-- ---- three constant texts

-- the style of the page: the bytes of look/page.css
unfoldable pub look : List ℕ
look = LOOK.now

-- the links of the views and the search form: the bytes of look/page.bar
unfoldable pub bar : List ℕ
bar = BAR.now

-- the first part of what the page does: the bytes of look/timetable.js
unfoldable pub timetable_script : List ℕ
timetable_script = TIMETABLE_SCRIPT.now

-- the second part: the bytes of look/views.js
unfoldable pub view_script : List ℕ
view_script = VIEW_SCRIPT.now

-- what the page does
abbrev pub script : List ℕ
script = timetable_script ++ view_script

-- ---- the title

-- what the times of a time mode are
abbrev pub mode_text : TimeMode → List ℕ
mode_text Utc = codes "UTC"
mode_text Local = codes "local times"

-- the airline, the season and the time mode
unfoldable pub title : PageHeading → List ℕ
title heading =
    airline_text heading.airline ++ codes " " ++ escaped heading.season ++ codes ", "
    ++ mode_text heading.time_mode

-- the begin of the document
abbrev pub document_begin : List ℕ
document_begin = codes "<!DOCTYPE html>\n<html lang=\"en\">\n<head>\n<meta charset=\"utf-8\">\n"
    ++ codes "<meta name=\"viewport\" content=\"width=device-width\">\n<title>"

-- the begin of the document, with its title
unfoldable pub document_title : PageHeading → List ℕ
document_title heading = document_begin ++ title heading ++ codes "</title>\n"

-- the same as the first line that is shown
unfoldable pub shown_title : PageHeading → List ℕ
shown_title heading =
    codes "</head>\n<body>\n<header><h1>" ++ title heading ++ codes "</h1>\n"

-- the end of the document
unfoldable pub document_end : List ℕ
document_end = codes "</body>\n</html>\n"

-- ---- the page

-- The page with this heading: the timetable of the flights, the changes of flights that differ from
-- an earlier timetable, and messages with these articles.
unfoldable pub whole_page : PageHeading → List Divided → List Compared → List ℕ → List ℕ
whole_page heading flights differing articles =
    document_title heading ++ look ++ shown_title heading ++ bar
    ++ timetable heading.airline flights ++ changes heading.airline differing
    ++ messages articles ++ script ++ document_end
