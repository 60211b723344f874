-- How many days the periods of pieces hold.
use Rattle.std.specs.Prelude.{ℕ, Bool, true, min, if◌then◌else◌, List}
use Rattle.std.specs.List.{count_by, range_with_len, sum_by}
use Rattle.ssim_values.specs.Flight.{FlightNumber}
use Rattle.ssim_values.specs.Period.{DayRange}
use Rattle.ssim_periods.specs.Calendar.{day_count, holds}
use Rattle.ssim_base.specs.Timetable.{Legs}

-- the number of days of a period
abbrev pub days_in : DayRange → ℕ
days_in period = count_by (holds period) (range_with_len 0 day_count)

-- the number of days of a period, if its value passes a test
abbrev pub days_if : {V : Type 0} → (V → Bool) → DayRange × V → ℕ
days_if test piece = if test piece.1 then days_in piece.0 else 0

-- the number of days of the pieces whose values pass a test
abbrev pub dates_in : {V : Type 0} → (V → Bool) → List (DayRange × V) → ℕ
dates_in test pieces = sum_by (days_if test) pieces

-- the number of dates of the pieces of flights whose values pass a test
abbrev pub all_dates : {V : Type 0} → (V → Bool) → List (FlightNumber × List (DayRange × V)) → ℕ
all_dates test flights = sum_by (λ flight. dates_in test flight.1) flights

-- a test that all legs pass
abbrev pub any_legs : Legs → Bool
any_legs legs = true

-- at most the greatest number of 64 bits
abbrev pub capped : ℕ → ℕ
capped n = min n 18446744073709551615
