-- The rows of the table `day`: the days of a script, and those around them.
use Rattle.std.specs.Prelude.{ℕ, ◌+◌, ◌-◌, ◌%◌, ◌==◌, nat_le, if◌then◌else◌, List, [], ◌∷◌, ◌++◌}
use Rattle.std.specs.Prelude.{codes, fold, max, min}
use Rattle.std.specs.List.{flat_map, range_with_len}
use Rattle.ssim_values.specs.Calendar.{day_limit}
use Rattle.ssim_values.specs.Characters.{two_digits}
use Rattle.ssim_values.specs.Period.{DayRange}
use Rattle.ssim_records.specs.Carrier.{CarrierFields}
use Rattle.ssim_base.specs.Base.{end_of}
use Rattle.ssim_held.specs.Entries.{Entry}
use Rattle.ssim_schedule.specs.FlightPieces.{Divided}
use Rattle.ssim_listing.specs.Rows.{iso_date}
use Rattle.ssim_sql.specs.LegRows.{days_after}
use Rattle.ssim_sql.specs.Literal.{quote}
use Rattle.ssim_sql.specs.Statements.{row}
use Rattle.ssim_sql.specs.declared.constant.heads.TheConstants.{DAY_HEAD}

-- ---- which days

-- a first and a last day after one more period
abbrev pub widened : ℕ × ℕ → DayRange → ℕ × ℕ
widened days period = (min days.0 period.first, max days.1 period.last)

-- the first and the last day after the periods of these messages, too
abbrev pub with_messages : ℕ × ℕ → List Entry → ℕ × ℕ
with_messages days entries = fold
    (λ so_far e. fold (λ within sub. widened within sub.period) so_far e.dates) days entries

-- the first and the last day after the periods of these flights, too
abbrev pub with_flights : ℕ × ℕ → List Divided → ℕ × ℕ
with_flights days flights = fold
    (λ so_far flight. fold (λ within piece. widened within piece.0) so_far flight.1) days flights

-- the first and the last day of a script: those of the validity, and of the periods of messages
-- and of flights
abbrev pub days_of_script : CarrierFields → List Entry → List Divided → ℕ × ℕ
days_of_script carrier entries flights =
    with_flights (with_messages (carrier.first, end_of carrier) entries) flights

-- ---- the rows, by days from 31 December 1999, which is 0

-- A date. The day before the calendar and the ten after it have dates, too.
abbrev pub date_of : ℕ → List ℕ
date_of n =
    if n == 0 then codes "1999-12-31"
    else (if nat_le n day_limit then iso_date (n - 1)
    else codes "2100-01-" ++ two_digits (n - day_limit))

-- the weekday as a digit, 1 for Monday; 31 December 1999 was a Friday
abbrev pub weekday_of : ℕ → List ℕ
weekday_of n = (49 + (n + 4) % 7) ∷ []

-- the row of a day: its number from 01JAN00, which is 0, its date and its weekday
unfoldable pub day_row : ℕ → List ℕ
day_row n = row (days_after n) (quote (date_of n) ∷ quote (weekday_of n) ∷ [])

-- a row after another one
abbrev pub later_row : ℕ → List ℕ
later_row n = codes ",\n" ++ day_row n

-- The statement of each day from one before the first to ten after the last. Days that are there
-- already stay, since all timetables share them.
unfoldable pub day_statement : ℕ × ℕ → List ℕ
day_statement days =
    DAY_HEAD.now ++ day_row days.0
    ++ flat_map later_row (range_with_len (days.0 + 1) (days.1 + 12 - (days.0 + 1)))
    ++ codes "\nON CONFLICT DO NOTHING;\n"
