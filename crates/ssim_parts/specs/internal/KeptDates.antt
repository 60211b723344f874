-- Dates that are kept with a shift, and the dates to which they move.
use Rattle.std.specs.Prelude.{ℕ, ◌+◌, ◌-◌, Bool, false, nat_eq, nat_lt, if◌then◌else◌, List, []}
use Rattle.std.specs.Prelude.{◌∷◌}
use Rattle.ssim_parts.specs.declared.fate.Fate.{Fate}
use Rattle.ssim_parts.specs.declared.fate.Fate.TheVariants.{Absent, Kept, Left}
use Rattle.ssim_parts.specs.declared.fate.LeftReason.TheVariants.{Date}

-- whether a fate is to be kept with a shift
abbrev pub is_kept_with : ℕ → Fate → Bool
is_kept_with shift Absent = false
is_kept_with shift (Left reason) = false
is_kept_with shift (Kept own) = nat_eq own shift

-- the fate after an earlier date came to the new date of dates with this shift
abbrev pub left_if_kept : ℕ → Fate → Fate
left_if_kept shift before = if is_kept_with shift before then Left Date else before

-- the days of a set moved by a shift, of which 1 is the same day
abbrev pub came_from : (ℕ → Bool) → ℕ → ℕ → Bool
came_from is_in shift m = if nat_lt (m + 1) shift then false else is_in (m + 1 - shift)

-- the legs, or others if there are none
abbrev pub or_legs : {A : Type 0} → List A → List A → List A
or_legs [] others = others
or_legs (leg ∷ legs) others = leg ∷ legs
