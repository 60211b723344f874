-- Days that two sets have in common.
use Rattle.std.specs.Prelude.{ℕ, Bool, ◌&&◌}
use Rattle.std.specs.List.{list_any, range_with_len}
use Rattle.ssim_values.specs.Period.{DayRange}
use Rattle.ssim_periods.specs.Calendar.{day_count, holds}

-- whether two sets have a day of the calendar in common
abbrev pub have_common_date : (ℕ → Bool) → (ℕ → Bool) → Bool
have_common_date one other = list_any (λ n. one n && other n) (range_with_len 0 day_count)

-- whether two periods have a day in common
abbrev pub meet : DayRange → DayRange → Bool
meet p q = have_common_date (holds p) (holds q)
