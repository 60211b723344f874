-- The days of the calendar by number, and the days that a period holds.
use Rattle.std.specs.Prelude.{ℕ, Bool, false, ◌&&◌, nat_le, slice_index_or}
use Rattle.ssim_values.specs.Calendar.{day_limit, slot}
use Rattle.ssim_values.specs.Period.{DayRange}

-- the number of days of the calendar; opaque, so that a list of one value per day is never written
-- out
unfoldable pub day_count : ℕ
day_count = day_limit

-- whether a day is one of the period
abbrev pub holds : DayRange → ℕ → Bool
holds period n =
    (nat_le period.first n && nat_le n period.last) && slice_index_or period.days (slot n) false
