-- How many days periods hold.
use Rattle.std.specs.Prelude.{ℕ, List}
use Rattle.std.specs.List.{count_by, range_with_len, sum_by}
use Rattle.ssim_values.specs.Period.{DayRange}
use Rattle.ssim_periods.specs.Calendar.{day_count, holds}
use Rattle.ssim_difference.specs.Differences.{Compared, DifferencePiece}

-- the number of days of a period
abbrev pub days_in : DayRange → ℕ
days_in period = count_by (holds period) (range_with_len 0 day_count)

-- the number of days of the periods of pieces, all together
abbrev pub dates_in : List DifferencePiece → ℕ
dates_in pieces = sum_by (λ piece. days_in piece.0) pieces

-- the number of dates of the pieces of flights, all together
abbrev pub all_dates : List Compared → ℕ
all_dates flights = sum_by (λ flight. dates_in flight.1) flights
