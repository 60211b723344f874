-- A span of dates in words, and what the sub-messages of a desk find on dates of it.
use Rattle.std.specs.Prelude.{ℕ, Bool, ◌&&◌, ◌||◌, if◌then◌else◌, List, [], ◌∷◌, is_some}
use Rattle.ssim_values.specs.Period.{DayRange}
use Rattle.ssim_periods.specs.Calendar.{holds}
use Rattle.ssim_periods.specs.Days.{each_day}
use Rattle.ssim_text.specs.declared.action.Action.{Action}
use Rattle.ssim_text.specs.declared.action.Sub.{Sub}
use Rattle.ssim_base.specs.BaseSeen.{BaseSeen}
use Rattle.ssim_base.specs.Stations.{Row}
use Rattle.ssim_base.specs.Timetable.{Days, itinerary}
use Rattle.ssim_base.specs.declared.sub_message.ResolvedSub.{ResolvedSub}
use Rattle.ssim_schedule.specs.Acts.{class_on, counted_by}
use Rattle.ssim_schedule.specs.declared.finding.Finding.{Finding}
use Rattle.ssim_held.specs.Entries.{DeskSeen, Entry}
use Rattle.ssim_desk.specs.Desk.{entry_lines, finding_lines}
use Rattle.ssim_desk.specs.Meaning.{Timetable, after_entry, after_one}
use Rattle.ssim_desk.specs.declared.finding_line.FindingLine.{FindingLine}
use Rattle.ssim_parts.specs.Chosen.{Choosing, chooses_date}
use Rattle.ssim_command_line.specs.Line.{ChoiceTexts, SpanTexts}

-- ---- words

-- whether the first date or the last is given
abbrev pub has_end : SpanTexts → Bool
has_end span = is_some span.from || is_some span.to

-- a choice by dates and flights alone, in words
abbrev pub dates_alone : SpanTexts → ChoiceTexts
dates_alone span = record { from = span.from; to = span.to; stations = []; aircraft = [] }

-- ---- findings

-- whether a date is one of the period, and is chosen
abbrev pub holds_chosen : Choosing → DayRange → ℕ → Bool
holds_chosen choice period n = holds period n && chooses_date choice n

-- how many of these dates get the reason of class k
abbrev pub count_chosen : Choosing → List Row → Action → DayRange → Days → ℕ → ℕ
count_chosen choice rows action period days k =
    counted_by (holds_chosen choice period) (class_on rows action) k 0 days

-- how many of these dates get each reason
abbrev pub chosen_finding : Choosing → List Row → Action → DayRange → Days → Finding
chosen_finding choice rows action period days = record {
  acted = count_chosen choice rows action period days 0;
  absent = count_chosen choice rows action period days 1;
  present = count_chosen choice rows action period days 2;
  leg = count_chosen choice rows action period days 3;
  station = count_chosen choice rows action period days 4;
}

-- what each sub-message of a text finds on chosen dates, after those before it
abbrev pub subs_chosen : Choosing → List Row → List Sub → List ResolvedSub → Timetable
    → List Finding
subs_chosen choice rows (sub ∷ subs) (dated ∷ dates) before =
    chosen_finding choice rows sub.action dated.period (each_day (before dated.flight))
    ∷ subs_chosen choice rows subs dates (after_one rows sub.action dated before)
subs_chosen _ _ _ _ _ = []

-- what the sub-messages of each entry find on chosen dates, one list an entry
abbrev pub entries_chosen : Choosing → List Row → List Entry → Timetable → List (List Finding)
entries_chosen choice rows [] before = []
entries_chosen choice rows (e ∷ entries) before =
    subs_chosen choice rows e.message.subs e.dates before
    ∷ entries_chosen choice rows entries (after_entry rows e before)

-- what each sub-message of these messages finds on chosen dates
abbrev pub chosen_by : Choosing → BaseSeen → List Entry → List (List Finding)
chosen_by choice base entries = entries_chosen choice base.rows entries (itinerary base.records)

-- a line for each sub-message of a desk: what it found on all dates of its period or, if a span is
-- given, on the chosen ones
abbrev pub lines_found : Bool → Choosing → DeskSeen → List FindingLine
lines_found spanned choice desk =
    if spanned then entry_lines desk.held (chosen_by choice desk.base desk.held)
    else finding_lines desk
