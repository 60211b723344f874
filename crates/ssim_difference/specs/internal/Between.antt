-- The difference of two lists of pieces.
use Rattle.std.specs.Prelude.{ℕ, ◌≤◌, List, [], length, slice_index_or}
use Rattle.ssim_periods.specs.Days.{each_day}
use Rattle.ssim_periods.specs.Pieces.{held_on}
use Rattle.ssim_base.specs.Export.{Piece}
use Rattle.ssim_base.specs.Timetable.{Legs}
use Rattle.ssim_difference.specs.declared.difference.Difference.{Difference}
use Rattle.ssim_difference.specs.Differences.{difference}

-- the itinerary of the first piece that holds the day; no legs if none does
abbrev pub held : List Piece → ℕ → Legs
held pieces n = slice_index_or (held_on pieces n) 0 []

-- no day is held by two of the pieces
abbrev pub AreDisjoint : List Piece → Type 0
AreDisjoint pieces = (n : ℕ) → length (held_on pieces n) ≤ 1

-- the difference of two lists of pieces on each day
abbrev pub days_between : List Piece → List Piece → List Difference
days_between old new = each_day (λ n. difference (held old n) (held new n))
