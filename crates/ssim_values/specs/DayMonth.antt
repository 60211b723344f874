-- A day of a month in no year, DDMMM.
use Rattle.std.specs.Prelude.{◌≡◌, ℕ, ◌&&◌, nat_le, if◌then◌else◌, List, [], ◌∷◌, ◌++◌, Option, Some, None}
use Rattle.ssim_values.specs.Calendar.{IsDayMonth, month_length}
use Rattle.ssim_values.specs.Characters.{two_digits, two_digits_of}
use Rattle.ssim_values.specs.Day.{month_name, month_named}

-- what contracts see of a `DayMonth`
pub record MonthDay : Type 0 where
  pub month : ℕ
  pub day : ℕ

-- the text of a day and month, as 01JAN
abbrev pub month_day_text : MonthDay → List ℕ
month_day_text x = two_digits x.day ++ month_name x.month

-- the text spells a day and month that exist in some year
pub record SpellsDayMonth (x : MonthDay) (text : List ℕ) : Type 0 where
  pub is_date : IsDayMonth x.month x.day
  pub spelled : text ≡ month_day_text x

-- ---- the same as a function

-- the day and month, if the month has that day in a leap year
abbrev pub month_day : Option ℕ → Option ℕ → Option MonthDay
month_day (Some m) (Some d) =
    if (nat_le 1 m && nat_le m 12) && (nat_le 1 d && nat_le d (month_length 2000 m))
    then Some (record { month = m; day = d }) else None
month_day (Some m) None = None
month_day None day = None

-- the day of a month that a text spells
unfoldable pub month_day_of : List ℕ → Option MonthDay
month_day_of (d₁ ∷ d₂ ∷ m₁ ∷ m₂ ∷ m₃ ∷ []) =
    month_day (month_named (m₁ ∷ m₂ ∷ m₃ ∷ [])) (two_digits_of d₁ d₂)
month_day_of _ = None
