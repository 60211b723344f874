-- Lists of periods, one for each number from 1 on.
use Rattle.std.specs.Prelude.{◌≡◌, ℕ, ◌+◌, Bool, ◌&&◌, ◌||◌, nat_eq, nat_le, nat_lt, Some, List}
use Rattle.std.specs.Prelude.{length, slice_get, slice_index_or}
use Rattle.ssim_values.specs.Period.{DayRange}
use Rattle.ssim_values.specs.Calendar.{slot}
use Rattle.ssim_periods.specs.internal.Apart.{is_held}

-- whether a day is one from `from` to before `to`
abbrev pub is_between : ℕ → ℕ → ℕ → Bool
is_between from to n = nat_le from n && nat_lt n to

-- whether a day is in the range and its weekday has the number in the row
abbrev pub is_numbered_in : List ℕ → ℕ → ℕ → ℕ → ℕ → Bool
is_numbered_in row from to number n =
    is_between from to n && nat_eq number (slice_index_or row (slot n) 0)

-- whether a day is in the range, of this weekday, and the number is the given one
abbrev pub is_numbered_on : ℕ → ℕ → ℕ → ℕ → ℕ → ℕ → Bool
is_numbered_on weekday given from to number n =
    (is_between from to n && nat_eq (slot n) weekday) && nat_eq number given

-- the i-th list has the days before `end` on which the number is i + 1
abbrev pub HaveDays : (ℕ → ℕ) → ℕ → List (List DayRange) → Type 0
HaveDays number_on end lists =
    (i : ℕ) (periods : List DayRange) → slice_get lists i ≡ Some periods
    → (n : ℕ) → is_held periods n ≡ (nat_lt n end && nat_eq (i + 1) (number_on n))

-- the lists get the days that the test gives them by their numbers, and keep what they have
pub record AddsDays (adds : ℕ → ℕ → Bool) (old new : List (List DayRange)) : Type 0 where
  pub count : length new ≡ length old
  pub days : (i : ℕ) (before after : List DayRange) → slice_get old i ≡ Some before
      → slice_get new i ≡ Some after
      → (n : ℕ) → is_held after n ≡ (adds (i + 1) n || is_held before n)
