-- The months of the latest dates.
use Rattle.std.specs.Prelude.{ℕ, ◌≡◌, ◌+◌, ◌-◌, ◌<◌, ◌≤◌, List, [], ◌∷◌, ◌++◌, Some}
use Rattle.ssim_values.specs.Calendar.{day_limit}
use Rattle.ssim_values.specs.Characters.{two_digits}
use Rattle.ssim_values.specs.Day.{day_of}

-- the days 1 to 28 of a month, which is spelled by four bytes and one more, are numbered from
-- `first` on
pub record IsMonth (name : List ℕ) (year first : ℕ) : Type 0 where
  pub days : (d : ℕ) → 1 ≤ d → d ≤ 28
      → day_of (two_digits d ++ (name ++ year ∷ [])) ≡ Some (first + (d - 1))
  pub below : first < day_limit
