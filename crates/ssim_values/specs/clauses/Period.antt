-- The days that a period holds, and when it is within the calendar.
use Rattle.std.specs.Prelude.{◌≡◌, ℕ, ◌≤◌, ◌<◌, true}
use Rattle.ssim_values.specs.Calendar.{weekday, day_limit}
use Rattle.ssim_values.specs.clauses.DayMask.{operates}
use Rattle.ssim_values.specs.DayMask.{IsMask}
use Rattle.ssim_values.specs.Period.{DayRange}

-- the day lies in the period
abbrev pub Holds : DayRange → ℕ → Type 0
Holds p n = (p.first ≤ n) × (n ≤ p.last) × (operates p.days (weekday n) ≡ true)

-- the period is within the calendar; it may hold no day
pub record IsPeriod (p : DayRange) : Type 0 where
  pub ordered : p.first ≤ p.last
  pub in_calendar : p.last < day_limit
  pub mask : IsMask p.days
