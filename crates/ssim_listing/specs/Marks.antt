-- The marks of legs that differ in what their lines do not show.
use Rattle.std.specs.Prelude.{ℕ, Bool, not, ◌&&◌, if◌then◌else◌, List, [], ◌∷◌, ◌++◌, codes}
use Rattle.std.specs.List.{list_any}
use Rattle.std.specs.Str.{bytes_eq}
use Rattle.ssim_base.specs.Export.{line, same_leg}
use Rattle.ssim_base.specs.Timetable.{LegValue, Legs}
use Rattle.ssim_listing.specs.LegText.{leg_text}

-- whether two legs differ, but have the same text
abbrev pub is_like_by : (LegValue → List ℕ) → LegValue → LegValue → Bool
is_like_by text other leg = not (same_leg other leg) && bytes_eq (text other) (text leg)

-- whether one of the legs differs from this one, but has the same text
abbrev pub is_like_one_by : (LegValue → List ℕ) → Legs → LegValue → Bool
is_like_one_by text legs leg = list_any (λ other. is_like_by text other leg) legs

-- whether two legs differ, but have the same line
abbrev pub is_like : LegValue → LegValue → Bool
is_like = is_like_by leg_text

-- whether one of the legs differs from this one, but has the same line
abbrev pub is_like_one : Legs → LegValue → Bool
is_like_one = is_like_one_by leg_text

-- the mark after the line of a leg, or nothing
abbrev pub mark_text : Bool → List ℕ
mark_text is_marked = if is_marked then codes " *" else []

-- The line of a leg, two blanks before it, and a mark after it if one of the other legs differs
-- from it, but has the same line.
abbrev pub marked_line : Legs → LegValue → List ℕ
marked_line others leg = line (32 ∷ 32 ∷ leg_text leg ++ mark_text (is_like_one others leg))
