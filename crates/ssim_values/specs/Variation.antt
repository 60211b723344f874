-- UTC variations: a sign and HHMM to 1500, kept as written, so that -0000 and +0000 differ.
use Rattle.std.specs.Prelude.{◌≡◌, ℕ, ◌≤◌, Bool, true, false, ◌==◌, if◌then◌else◌, List, [], ◌∷◌, Option, Some, None}
use Rattle.ssim_values.specs.Clock.{clock_text, hours_and_minutes}

-- what contracts see of a `Variation`: its sign, and its minutes
pub record Offset : Type 0 where
  pub negative : Bool
  pub minutes : ℕ

-- the text of a UTC variation: a sign and four digits, as +0100
abbrev pub variation_text : Offset → List ℕ
variation_text v = (if v.negative then 45 else 43) ∷ clock_text v.minutes

-- the text spells the UTC variation, which is at most 15 hours
pub record SpellsVariation (v : Offset) (text : List ℕ) : Type 0 where
  pub to : v.minutes ≤ 900
  pub spelled : text ≡ variation_text v

-- ---- the same as a function

-- the UTC variation with this sign, if there are minutes
abbrev pub signed : Bool → Option ℕ → Option Offset
signed negative None = None
signed negative (Some m) = Some (record { negative = negative; minutes = m })

-- the variation that a text spells
unfoldable pub variation_of : List ℕ → Option Offset
variation_of [] = None
variation_of (sign ∷ clock) =
    if sign == 43 then signed false (hours_and_minutes 900 clock)
    else (if sign == 45 then signed true (hours_and_minutes 900 clock) else None)
