-- Sets of dates.
use Rattle.std.specs.Prelude.{ℕ, ◌/◌, ◌%◌, Bool, nat_eq, List, slice_index}
use Rattle.std.specs.Int.{bit_at}
use Rattle.std.specs.List.{list_any}
use Rattle.ssim_values.specs.Period.{DayRange}
use Rattle.ssim_periods.specs.Calendar.{holds}

-- whether a date is in a set that is kept as words of 64 bits: its bit is 1
abbrev pub has_date : List ℕ → ℕ → Bool
has_date words n = nat_eq (bit_at (slice_index words (n / 64)) (n % 64)) 1

-- whether one of some periods has a date
abbrev pub is_in : List DayRange → ℕ → Bool
is_in periods n = list_any (λ p. holds p n) periods
