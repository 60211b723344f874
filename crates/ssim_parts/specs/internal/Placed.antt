-- Parts of a flight's dates, each with what becomes of them, and their new dates.
use Rattle.std.specs.Prelude.{◌≡◌, ℕ, ◌+◌, ◌-◌, ◌≤◌, Bool, true, false, ◌||◌, nat_lt}
use Rattle.std.specs.Prelude.{if◌then◌else◌, List, [], ◌∷◌}
use Rattle.std.specs.List.{list_any}
use Rattle.ssim_values.specs.Period.{DayRange}
use Rattle.ssim_periods.specs.Calendar.{holds}
use Rattle.ssim_periods.specs.Pieces.{held_on}
use Rattle.ssim_base.specs.Timetable.{Above, Legs}
use Rattle.ssim_parts.specs.FlightFates.{FatePiece}
use Rattle.ssim_parts.specs.declared.moved_flight.MovedFlight.{MovedFlight}
use Rattle.ssim_parts.specs.declared.fate.Fate.{Fate}
use Rattle.ssim_parts.specs.declared.fate.Fate.TheVariants.{Absent, Kept}
use Rattle.ssim_parts.specs.internal.KeptDates.{came_from, is_kept_with, left_if_kept, or_legs}

-- a period with what becomes of its flight dates, and their legs in the new time mode
abbrev pub MovedPiece : Type 0
MovedPiece = DayRange × MovedFlight

-- the legs that a flight date gives to the date with a shift
abbrev pub legs_kept : ℕ → MovedFlight → Legs
legs_kept shift moved = if is_kept_with shift moved.fate then moved.legs else []

-- the first of these
abbrev pub first_kept : ℕ → List MovedFlight → Legs
first_kept shift [] = []
first_kept shift (moved ∷ later) = or_legs (legs_kept shift moved) (first_kept shift later)

-- the legs that flight dates of these pieces give to a date with a shift
abbrev pub legs_at : ℕ → List MovedPiece → ℕ → Legs
legs_at shift parts m =
    if nat_lt (m + 1) shift then [] else first_kept shift (held_on parts (m + 1 - shift))

-- what a date has after the flight dates with a shift were put where no legs were
abbrev pub legs_put : ℕ → List MovedPiece → ℕ → Legs → Legs
legs_put shift parts m before = or_legs before (legs_at shift parts m)

-- the fate of the last of these
abbrev pub last_fate : Fate → List MovedFlight → Fate
last_fate before [] = before
last_fate before (moved ∷ later) = last_fate moved.fate later

-- the fate of a date after periods with fates, one after another, gave it theirs
abbrev pub fate_by : Fate → List FatePiece → ℕ → Fate
fate_by before [] n = before
fate_by before (run ∷ later) n = fate_by (if holds run.0 n then run.1 else before) later n

-- whether a part is to be kept with a shift
abbrev pub has_shift : ℕ → List MovedPiece → Bool
has_shift shift [] = false
has_shift shift (part ∷ parts) = is_kept_with shift part.1.fate || has_shift shift parts

-- a date is kept with a shift only if a part is to be
abbrev pub IsKeptByParts : ℕ → List MovedPiece → (ℕ → Fate) → Type 0
IsKeptByParts shift parts fates =
    (n : ℕ) → is_kept_with shift (fates n) ≡ true → has_shift shift parts ≡ true

-- whether one of these is kept with a shift
abbrev pub is_one_kept : ℕ → List MovedFlight → Bool
is_one_kept shift moved = list_any (λ one. is_kept_with shift one.fate) moved

-- the fate of a date, of which `later` is the shift, after dates with another shift came to its new
-- date; these are `by - 1` days before it
abbrev pub fate_after : ℕ → ℕ → ℕ → List MovedPiece → ℕ → Fate → Fate
fate_after shift by later parts n before =
    if came_from (λ k. is_one_kept shift (held_on parts k)) by n then left_if_kept later before
    else before

-- a shift that is kept is at most 2
abbrev pub IsShort : Fate → Type 0
IsShort fate = (shift : ℕ) → fate ≡ Kept shift → shift ≤ 2

-- what becomes of a date by all parts: its own fate, or `date` if another date comes before
abbrev pub fate_in : List MovedPiece → ℕ → Fate
fate_in parts n =
    fate_after 1 2 0 parts n (fate_after 2 3 0 parts n
    (fate_after 2 2 1 parts n (last_fate Absent (held_on parts n))))

-- a part whose shift is at most 2, and whose legs are in order
pub record IsFit (part : MovedPiece) : Type 0 where
  pub short : IsShort part.1.fate
  pub in_order : Above 0 part.1.legs

-- the part of a period from the first day up to the end
pub record IsPart (period : DayRange) (first end : ℕ) (part : DayRange) : Type 0 where
  pub first_is : part.first ≡ first
  pub last_is : part.last + 1 ≡ end
  pub days_are : part.days ≡ period.days
