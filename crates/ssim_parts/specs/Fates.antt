-- What becomes of flight dates in the other time mode.
use Rattle.std.specs.Prelude.{ℕ, ◌+◌, Bool, false, nat_eq, List, [], ◌∷◌, Option}
use Rattle.std.specs.Prelude.{Some, None}
use Rattle.std.specs.Cmp.Lexicographic.{slice_cmp}
use Rattle.std.specs.Ordering.{nat_cmp}
use Rattle.std.specs.Str.{bytes_eq}
use Rattle.std.specs.declared.cmp.Ordering.{Ordering}
use Rattle.ssim_parts.specs.declared.fate.Fate.{Fate}
use Rattle.ssim_parts.specs.declared.fate.Fate.TheVariants.{Absent, Kept, Left}
use Rattle.ssim_parts.specs.declared.fate.LeftReason.{LeftReason}
use Rattle.ssim_parts.specs.declared.fate.LeftReason.TheVariants.{Station, Letter, Calendar, Days}
use Rattle.ssim_parts.specs.declared.fate.LeftReason.TheVariants.{Date}

-- why a date is left
abbrev pub left_for : Fate → Option LeftReason
left_for Absent = None
left_for (Kept shift) = None
left_for (Left reason) = Some reason

-- whether a date n with this fate comes to the new date m; a shift of 1 is the same day
abbrev pub lands_on : ℕ → ℕ → Fate → Bool
lands_on m n Absent = false
lands_on m n (Left reason) = false
lands_on m n (Kept shift) = nat_eq (n + shift) (m + 1)

-- a fate as two numbers: its kind, and its shift or leg sequence
abbrev pub fate_code : Fate → List ℕ
fate_code Absent = 0 ∷ 0 ∷ []
fate_code (Kept shift) = 1 ∷ shift ∷ []
fate_code (Left (Station sequence)) = 2 ∷ sequence ∷ []
fate_code (Left (Letter sequence)) = 3 ∷ sequence ∷ []
fate_code (Left (Days sequence)) = 4 ∷ sequence ∷ []
fate_code (Left Calendar) = 5 ∷ 0 ∷ []
fate_code (Left Date) = 6 ∷ 0 ∷ []

-- whether two fates are equal
abbrev pub same_fate : Fate → Fate → Bool
same_fate one other = bytes_eq (fate_code one) (fate_code other)

-- the order of two fates, by their numbers
abbrev pub fate_cmp : Fate → Fate → Ordering
fate_cmp one other = slice_cmp nat_cmp (fate_code one) (fate_code other)
