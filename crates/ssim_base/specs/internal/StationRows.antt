-- A table of stations, read line by line.
use Rattle.std.specs.Prelude.{◌≡◌, ℕ, nat_le, if◌then◌else◌, List, [], ◌∷◌, Option, Some, None, Result, Ok, Err}
use Rattle.ssim_text.specs.Bytes.{◌>>=◌, word, after_word}
use Rattle.ssim_text.specs.Lines.{station_in, day_in}
use Rattle.ssim_base.specs.Stations.{Row, variation_in}
use Rattle.ssim_base.specs.declared.stations.StationFault.{StationFault}
use Rattle.ssim_base.specs.declared.stations.StationFault.TheVariants.{Memory, Stations}

-- the row that a line spells
unfoldable pub row_of : List ℕ → Option Row
row_of line = do
  station ← station_in (word line)
  first ← day_in (word (after_word line))
  last ← day_in (word (after_word (after_word line)))
  variation ← variation_in (after_word (after_word (after_word line)))
  if nat_le first last then Some
      (record { station = station; first = first; last = last; variation = variation }) else None

-- a row before the rows of the later lines
abbrev pub row_before : Row → Result (List Row) ℕ → Result (List Row) ℕ
row_before row (Ok rows) = Ok (row ∷ rows)
row_before row (Err n) = Err n

-- the rows from a line on: its own row before the later ones, or the line's number if it spells
-- none
abbrev pub row_then : ℕ → Option Row → Result (List Row) ℕ → Result (List Row) ℕ
row_then n None later = Err n
row_then n (Some row) later = row_before row later

-- the rows of lines, or the number of the first that spells none
abbrev pub rows_of : List (ℕ × List ℕ) → Result (List Row) ℕ
rows_of [] = Ok []
rows_of (line ∷ lines) = row_then line.0 (row_of line.1) (rows_of lines)

-- the fault names the same line as `rows_of`; out of memory says nothing of the lines
abbrev pub StopsAs : Result (List Row) ℕ → StationFault → Type 0
StopsAs read Memory = Unit {0}
StopsAs read (Stations n) = read ≡ Err n
