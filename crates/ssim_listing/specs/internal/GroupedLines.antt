-- The lines of legs, marked by a test of their lines.
use Rattle.std.specs.Prelude.{ℕ, Bool, List, ◌∷◌, ◌++◌}
use Rattle.std.specs.List.{flat_map}
use Rattle.ssim_base.specs.Export.{Piece, line}
use Rattle.ssim_base.specs.Timetable.{LegValue}
use Rattle.ssim_listing.specs.LegText.{leg_text}
use Rattle.ssim_listing.specs.Lines.{period_text}
use Rattle.ssim_listing.specs.Marks.{mark_text}

-- the line of a leg, marked if `mixed` says so of it
abbrev pub grouped_line : (List ℕ → Bool) → LegValue → List ℕ
grouped_line mixed leg = line (32 ∷ 32 ∷ leg_text leg ++ mark_text (mixed (leg_text leg)))

-- a piece of a flight with this name, whose legs are marked if `mixed` says so of their lines
abbrev pub grouped_lines : List ℕ → (List ℕ → Bool) → Piece → List ℕ
grouped_lines name mixed piece =
    line (name ++ 32 ∷ period_text piece.0) ++ flat_map (grouped_line mixed) piece.1
