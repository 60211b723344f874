-- The rows of the table `segment`: a row for each segment record of a leg.
use Rattle.std.specs.Prelude.{ℕ, ◌-◌, List, [], ◌∷◌, slice_range}
use Rattle.std.specs.Fmt.{decimal}
use Rattle.ssim_text.specs.Left.{without_end}
use Rattle.ssim_listing.specs.Rows.{iso_date}
use Rattle.ssim_sql.specs.Blanks.{trimmed}
use Rattle.ssim_sql.specs.LegRows.{RowsOfLeg}
use Rattle.ssim_sql.specs.Literal.{quote}
use Rattle.ssim_sql.specs.Statements.{numbered, row_of}

-- columns first to last, from 29 on, of a segment record with this tail: columns 15 to 27 and 29 to
-- 194
abbrev pub tail_part : ℕ → ℕ → List ℕ → List ℕ
tail_part first last tail = slice_range tail (first - 16) (last - 15)

-- the values of a segment record at a place, of the leg of this sequence of a flight whose period
-- begins on this day
abbrev pub segment_values : List ℕ → ℕ → ℕ → ℕ → List ℕ → List (List ℕ)
segment_values flight day sequence place tail =
    quote flight ∷ quote (iso_date day) ∷ decimal sequence ∷ decimal place
    ∷ quote (trimmed (tail_part 29 30 tail)) ∷ quote (trimmed (tail_part 31 33 tail))
    ∷ quote (trimmed (tail_part 34 39 tail)) ∷ quote (without_end (tail_part 40 194 tail)) ∷ []

-- its row, of the timetable with this name
unfoldable pub segment_row : List ℕ → List ℕ → ℕ → ℕ → ℕ → List ℕ → List ℕ
segment_row name flight day sequence place tail =
    row_of name (segment_values flight day sequence place tail)

-- the rows of the segment records of a leg, numbered from 1
abbrev pub segment_rows : RowsOfLeg
segment_rows name mode flight period leg =
    numbered (segment_row name flight period.first leg.sequence) 1 leg.tails
