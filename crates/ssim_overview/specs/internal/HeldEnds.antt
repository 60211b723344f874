-- The latest end of periods that have begun by a day and operate on its weekday.
use Rattle.std.specs.Prelude.{ℕ, ◌+◌, ◌-◌, false, ◌&&◌, nat_le, nat_lt, if◌then◌else◌, max, List}
use Rattle.std.specs.Prelude.{[], ◌∷◌, Option, None, Some, slice_index_or}
use Rattle.ssim_values.specs.Calendar.{slot}
use Rattle.ssim_values.specs.Period.{DayRange}
use Rattle.ssim_values.specs.Variation.{Offset}
use Rattle.ssim_overview.specs.internal.SaidRows.{Dated}

-- the day after the last one of a period that has begun by a day and operates on its weekday; 0 for
-- another period
abbrev pub begun_end : ℕ → DayRange → ℕ
begun_end n period =
    if nat_le period.first n && slice_index_or period.days (slot n) false then period.last + 1 else 0

-- the same on the days of the first week of the period, or of that from a day on; 0 on others
abbrev pub first_end : ℕ → ℕ → DayRange → ℕ
first_end from n period = if nat_lt n (max period.first from + 7) then begun_end n period else 0

-- the greatest end of some periods
abbrev pub latest_end : (DayRange → ℕ) → List Dated → ℕ
latest_end end [] = 0
latest_end end (saying ∷ sayings) = max (end saying.0) (latest_end end sayings)

-- a variation on the days that are before the end at their place
abbrev pub before_ends : List ℕ → ℕ → Offset → ℕ → Option Offset
before_ends ends from v n = if nat_lt n (slice_index_or ends (n - from) 0) then Some v else None
