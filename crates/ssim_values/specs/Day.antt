-- How days are spelled: DDMMMYY, where YY is a year from 2000.
use Rattle.std.specs.Prelude.{◌≡◌, ℕ, ◌+◌, ◌-◌, if◌then◌else◌, List, [], ◌∷◌, ◌++◌, codes, slice_index_or, Option, Some, None, option_map}
use Rattle.std.specs.List.{position}
use Rattle.std.specs.Str.{bytes_eq}
use Rattle.ssim_values.specs.Calendar.{IsDate, is_date, day_number, year_of, month_of, day_of_month}
use Rattle.ssim_values.specs.Characters.{two_digits, two_digits_of}

-- the three letters of each month, from January to December
abbrev pub month_names : List (List ℕ)
month_names =
    codes "JAN" ∷ codes "FEB" ∷ codes "MAR" ∷ codes "APR" ∷ codes "MAY" ∷ codes "JUN" ∷ codes "JUL"
    ∷ codes "AUG"
    ∷ codes "SEP" ∷ codes "OCT" ∷ codes "NOV" ∷ codes "DEC" ∷ []

-- the name of a month from 1 to 12
abbrev pub month_name : ℕ → List ℕ
month_name m = slice_index_or month_names (m - 1) []

-- the text of a year, month and day, as 01JAN26
abbrev pub date_text : ℕ → ℕ → ℕ → List ℕ
date_text y m d = two_digits d ++ month_name m ++ two_digits (y - 2000)

-- the text spells the date with this day number, as 01JAN26
pub record SpellsDay (n : ℕ) (text : List ℕ) : Type 0 where
  pub year : ℕ
  pub month : ℕ
  pub day : ℕ
  pub is_date : IsDate year month day
  pub number : day_number year month day ≡ n
  pub spelled : text ≡ date_text year month day

-- ---- the same as functions

-- the month with this name
abbrev pub month_named : List ℕ → Option ℕ
month_named name = option_map (λ i. i + 1) (position (bytes_eq name) month_names)

-- the number of a date, if all three parts are there and the calendar has the date
abbrev pub date_number : Option ℕ → Option ℕ → Option ℕ → Option ℕ
date_number (Some y) (Some m) (Some d) =
    if is_date (2000 + y) m d then Some (day_number (2000 + y) m d) else None
date_number (Some y) (Some m) None = None
date_number (Some y) None day = None
date_number None month day = None

-- the day that a text spells
unfoldable pub day_of : List ℕ → Option ℕ
day_of (d₁ ∷ d₂ ∷ m₁ ∷ m₂ ∷ m₃ ∷ y₁ ∷ y₂ ∷ []) =
    date_number (two_digits_of y₁ y₂) (month_named (m₁ ∷ m₂ ∷ m₃ ∷ [])) (two_digits_of d₁ d₂)
day_of _ = None

-- the text of a day
unfoldable pub day_text : ℕ → List ℕ
day_text n = date_text (year_of n) (month_of n) (day_of_month n)
