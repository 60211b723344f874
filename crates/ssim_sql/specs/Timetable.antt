-- The name of a timetable, and its row in the table `timetable`.
use Rattle.std.specs.Prelude.{ℕ, List, [], ◌∷◌, ◌++◌, Option, Some, None, codes, slice_range}
use Rattle.std.specs.Fmt.{decimal}
use Rattle.ssim_values.specs.Airline.{airline_text}
use Rattle.ssim_values.specs.declared.time_mode.TimeMode.{TimeMode}
use Rattle.ssim_values.specs.declared.time_mode.TimeMode.TheVariants.{Utc, Local}
use Rattle.ssim_records.specs.Carrier.{CarrierFields}
use Rattle.ssim_base.specs.Base.{end_of}
use Rattle.ssim_listing.specs.Rows.{iso_date}
use Rattle.ssim_sql.specs.Blanks.{trimmed}
use Rattle.ssim_sql.specs.Literal.{quote}
use Rattle.ssim_sql.specs.Statements.{row_of, statements}
use Rattle.ssim_sql.specs.declared.constant.heads.TheConstants.{TIMETABLE_HEAD}

-- columns 11 to 13 of a carrier record
abbrev pub season_of : CarrierFields → List ℕ
season_of carrier = trimmed (slice_range carrier.season 5 8)

-- a blank and the season; nothing if it is blank
abbrev pub after_blank : List ℕ → List ℕ
after_blank [] = []
after_blank (b ∷ season) = 32 ∷ b ∷ season

-- the name of a timetable: its airline and its season
unfoldable pub timetable_name : CarrierFields → List ℕ
timetable_name carrier = airline_text carrier.airline ++ after_blank (season_of carrier)

-- the letter of a time mode, as column 2 has it
abbrev pub mode_letter : TimeMode → List ℕ
mode_letter Utc = codes "U"
mode_letter Local = codes "L"

-- a number, if there is one
abbrev pub number_or_null : Option ℕ → List ℕ
number_or_null None = codes "NULL"
number_or_null (Some n) = decimal n

-- The row of a timetable: its airline, season and time mode, its first and last date, the date on
-- which the data set was made, and the number of its messages, NULL for a data set.
unfoldable pub timetable_row : List ℕ → CarrierFields → Option ℕ → List ℕ
timetable_row name carrier messages = row_of name (
    quote (airline_text carrier.airline) ∷ quote (season_of carrier)
    ∷ quote (mode_letter carrier.time_mode)
    ∷ quote (iso_date carrier.first) ∷ quote (iso_date (end_of carrier))
    ∷ quote (iso_date carrier.created) ∷ number_or_null messages ∷ [])

-- the statement of that row
unfoldable pub timetable_statement : List ℕ → CarrierFields → Option ℕ → List ℕ
timetable_statement name carrier messages =
    statements TIMETABLE_HEAD.now (timetable_row name carrier messages ∷ [])
