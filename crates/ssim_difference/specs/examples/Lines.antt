-- The lines of two legs, checked by computation.
use Rattle.std.specs.Prelude.{◌≡◌, ℕ, List, [], ◌++◌, replicate, codes, refl}
use Rattle.ssim_base.specs.Timetable.{LegValue}
use Rattle.ssim_difference.specs.Lines.{both_lines, last_line, none_line}

-- the columns of a leg with this byte in column 76, which no line shows
abbrev columns_with : List ℕ → List ℕ
columns_with bookings =
    codes "J" ++ codes "FDH06300630+0200  HAM07550755+0200  E90" ++ bookings ++ replicate 51 32
    ++ replicate 64 32 ++ codes "00"

abbrev leg : List ℕ → LegValue
leg bookings = record { sequence = 1; columns = columns_with bookings; tails = [] }

-- equal legs have one line
equal_legs : both_lines (leg (codes "C")) (leg (codes "C"))
    ≡ codes "  01 FDH 0630 0630 +0200 HAM 0755 0755 +0200 00 J E90\n"
equal_legs = refl

-- legs that differ in what their lines do not show are both marked
marked_legs : both_lines (leg (codes "C")) (leg (codes "Y"))
    ≡ codes "- 01 FDH 0630 0630 +0200 HAM 0755 0755 +0200 00 J E90 *\n"
    ++ codes "+ 01 FDH 0630 0630 +0200 HAM 0755 0755 +0200 00 J E90 *\n"
marked_legs = refl

-- no leg
nothing_before : none_line (codes "- no flight") [] ≡ codes "- no flight\n"
nothing_before = refl

none_differ : last_line [] 0 ≡ codes "same\n"
none_differ = refl
