-- The lines of legs, marked by a test of their rows.
use Rattle.std.specs.Prelude.{ℕ, Bool, List, ◌++◌, codes}
use Rattle.std.specs.List.{flat_map}
use Rattle.ssim_base.specs.Timetable.{LegValue, Legs}
use Rattle.ssim_listing.specs.Marks.{mark_text}
use Rattle.ssim_page.specs.LegRow.{leg_row}

-- the line of a leg of the itinerary with this key, marked if `mixed` says so of its row
abbrev pub row_line : (List ℕ → Bool) → List ℕ → LegValue → List ℕ
row_line mixed key leg =
    key ++ codes " " ++ leg_row leg ++ mark_text (mixed (leg_row leg)) ++ codes "\n"

-- the lines of an itinerary with this key
abbrev pub row_lines : (List ℕ → Bool) → List ℕ → Legs → List ℕ
row_lines mixed key legs = flat_map (row_line mixed key) legs
