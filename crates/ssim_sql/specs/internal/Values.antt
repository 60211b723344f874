-- Values of a row, as they are written.
use Rattle.std.specs.Prelude.{ℕ, ◌==◌, nat_lt, Bool, not, ◌&&◌, List, codes}
use Rattle.std.specs.Fmt.{decimal}
use Rattle.ssim_values.specs.DayMask.{digits_of}
use Rattle.ssim_listing.specs.Rows.{iso_date}
use Rattle.ssim_sql.specs.Literal.{quote}
use Rattle.ssim_sql.specs.LegRows.{clock, days_after}
use Rattle.ssim_sql.specs.declared.value.Value.{Value}
use Rattle.ssim_sql.specs.declared.value.Value.TheVariants.{DayCount, Null, Number}
use Rattle.ssim_sql.specs.declared.value.Value.TheVariants.{Date, Moment, Text, Time, Weekdays}

-- a value as it is written
abbrev pub value_text : Value → List ℕ
value_text Null = codes "NULL"
value_text (Number n) = decimal n
value_text (DayCount n) = days_after n
value_text (Text bytes) = quote bytes.now
value_text (Weekdays days) = quote (digits_of days)
value_text (Date day) = quote (iso_date day)
value_text (Time minutes) = clock minutes
value_text (Moment time) = clock time.minutes

-- whether a byte is its own character in a text
abbrev pub is_plain : ℕ → Bool
is_plain b = not (b == 39) && nat_lt b 128
