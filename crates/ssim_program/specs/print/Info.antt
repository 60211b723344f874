-- What a file is, as `info` prints it: a key and a value in each line.
use Rattle.std.specs.Prelude.{ℕ, ◌-◌, List, [], ◌∷◌, ◌++◌, codes, length, slice_get, slice_range}
use Rattle.std.specs.Prelude.{Option, None, Some}
use Rattle.std.specs.Fmt.{decimal}
use Rattle.ssim_values.specs.Airline.{airline_text}
use Rattle.ssim_values.specs.Day.{day_text}
use Rattle.ssim_values.specs.declared.time_mode.TimeMode.{TimeMode}
use Rattle.ssim_values.specs.declared.time_mode.TimeMode.TheVariants.{Utc, Local}
use Rattle.ssim_records.specs.Carrier.{CarrierFields}
use Rattle.ssim_text.specs.Reference.{printed_reference}
use Rattle.ssim_base.specs.Base.{end_of}
use Rattle.ssim_base.specs.Export.{line}
use Rattle.ssim_held.specs.Entries.{DeskSeen, Entry}
use Rattle.ssim_desk.specs.Desk.{timetable_of}
use Rattle.ssim_listing.specs.LegText.{dotted}
use Rattle.ssim_overview.specs.Totals.{totals}
use Rattle.ssim_overview.specs.declared.totals.Totals.{Totals}
use Rattle.ssim_program.specs.declared.explain.file_kind.FileKind.{FileKind}
use Rattle.ssim_program.specs.declared.explain.file_kind.FileKind.TheVariants as kind

-- a line with a number
abbrev pub number_line : List ℕ → ℕ → List ℕ
number_line key n = line (key ++ decimal n)

-- ---- the carrier record

-- whether the end of a validity is written as open
abbrev pub open_text : Option ℕ → List ℕ
open_text None = codes " open"
open_text (Some last) = []

-- the word of a time mode, as `convert` takes it
abbrev pub mode_text : TimeMode → List ℕ
mode_text Utc = codes "utc"
mode_text Local = codes "local"

-- the airline, the season in columns 11 to 13, the first day and the end of the validity, the time
-- mode, and the day on which the data set was made
abbrev pub carrier_lines : CarrierFields → List ℕ
carrier_lines r =
    line (codes "airline " ++ airline_text r.airline)
    ++ line (codes "season " ++ dotted (slice_range r.season 5 8))
    ++ line (codes "validity " ++ day_text r.first ++ 32 ∷ day_text (end_of r) ++ open_text r.last)
    ++ line (codes "mode " ++ mode_text r.time_mode)
    ++ line (codes "created " ++ day_text r.created)

-- ---- the timetable

-- the first and the last date, each in a line of its own
abbrev pub ends_lines : Option (ℕ × ℕ) → List ℕ
ends_lines None = []
ends_lines (Some ends) =
    line (codes "first " ++ day_text ends.0) ++ line (codes "last " ++ day_text ends.1)

-- the numbers of flights, stations and flight dates, and the first and the last date
abbrev pub total_lines : Totals → List ℕ
total_lines found =
    number_line (codes "flights ") found.flights
    ++ number_line (codes "stations ") found.stations
    ++ number_line (codes "dates ") found.dates
    ++ ends_lines found.first_and_last

-- ---- what a desk holds

-- the reference of a message
abbrev pub latest_line : Option Entry → List ℕ
latest_line None = []
latest_line (Some entry) = line (codes "latest " ++ printed_reference entry.reference)

-- the numbers of station rows and of messages, and the last message, which has the greatest reference
abbrev pub desk_lines : DeskSeen → List ℕ
desk_lines desk =
    number_line (codes "rows ") (length desk.base.rows)
    ++ number_line (codes "messages ") (length desk.held)
    ++ latest_line (slice_get desk.held (length desk.held - 1))

-- ---- all together

-- the first line: what the file is
abbrev pub kind_line : FileKind → List ℕ
kind_line kind.Desk = line (codes "kind desk")
kind_line _ = line (codes "kind data set")

-- what a desk file says beside a data set
abbrev pub held_lines : FileKind → DeskSeen → List ℕ
held_lines kind.Desk desk = desk_lines desk
held_lines _ desk = []

-- The lines of a file of a kind with the timetable of a desk: its carrier record, the number of its
-- records but for fill, what the timetable has, and what a desk file holds.
abbrev pub info_lines : FileKind → CarrierFields → DeskSeen → List ℕ
info_lines kind carrier desk =
    kind_line kind ++ carrier_lines carrier
    ++ number_line (codes "records ") (length desk.base.records)
    ++ total_lines (totals (timetable_of desk))
    ++ held_lines kind desk
