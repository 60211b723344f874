-- Times of day, HHMM.
use Rattle.std.specs.Prelude.{◌≡◌, ℕ, ◌+◌, ◌*◌, ◌/◌, ◌%◌, ◌≤◌, ◌&&◌, nat_lt, nat_le, if◌then◌else◌, List, [], ◌∷◌, ◌++◌, Option, Some, None}
use Rattle.ssim_values.specs.Characters.{two_digits, two_digits_of}

-- hours and minutes in four digits
abbrev pub clock_text : ℕ → List ℕ
clock_text minutes = two_digits (minutes / 60) ++ two_digits (minutes % 60)

-- the text spells the time of day, from 0000 to 2359, or 2400
pub record SpellsClock (minutes : ℕ) (text : List ℕ) : Type 0 where
  pub to : minutes ≤ 1440
  pub spelled : text ≡ clock_text minutes

-- ---- the same as a function

-- the minutes of hours and minutes, if both are there and the sum is at most the limit
abbrev pub minutes_to : ℕ → Option ℕ → Option ℕ → Option ℕ
minutes_to limit (Some h) (Some m) =
    if nat_lt m 60 && nat_le (h * 60 + m) limit then Some (h * 60 + m) else None
minutes_to limit (Some h) None = None
minutes_to limit None minutes = None

-- the minutes of a text of four digits, hours and then minutes, if the sum is at most the limit
abbrev pub hours_and_minutes : ℕ → List ℕ → Option ℕ
hours_and_minutes limit (h₁ ∷ h₂ ∷ m₁ ∷ m₂ ∷ []) =
    minutes_to limit (two_digits_of h₁ h₂) (two_digits_of m₁ m₂)
hours_and_minutes limit _ = None

-- the minutes of the time that a text spells
unfoldable pub clock_of : List ℕ → Option ℕ
clock_of = hours_and_minutes 1440
