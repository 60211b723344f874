-- A table of the UTC variations of stations: how its lines are spelled, and which row counts.
use Rattle.std.specs.Prelude.{◌≡◌, ◌⊎◌, ℕ, ◌≤◌, Bool, ◌&&◌, ◌==◌, nat_le, if◌then◌else◌, List, []}
use Rattle.std.specs.Prelude.{◌∷◌, length, Option, Some, None}
use Rattle.std.specs.Str.{bytes_eq}
use Rattle.ssim_values.specs.Variation.{Offset, variation_of}
use Rattle.ssim_text.specs.Bytes.{word, after_word}
use Rattle.ssim_text.specs.Left.{lines_left}
use Rattle.ssim_text.specs.Lines.{station_in, day_in}
use Rattle.ssim_base.specs.declared.stations.StationFault.{StationFault}
use Rattle.ssim_base.specs.declared.stations.StationFault.TheVariants.{Memory, Stations}

-- a row: the variation that a station has from a first day to a last
pub record Row : Type 0 where
  pub station : List ℕ
  pub first : ℕ
  pub last : ℕ
  pub variation : Offset

-- the variation of a text: a sign and four digits
abbrev pub variation_in : List ℕ → Option Offset
variation_in text = if length text == 5 then variation_of text else None

-- the line is a station, a first day, a last day not before it, and a variation, with one or more
-- blanks between them
pub record SpellsRow (row : Row) (line : List ℕ) : Type 0 where
  pub station : station_in (word line) ≡ Some row.station
  pub first : day_in (word (after_word line)) ≡ Some row.first
  pub last : day_in (word (after_word (after_word line))) ≡ Some row.last
  pub variation : variation_in (after_word (after_word (after_word line))) ≡ Some row.variation
  pub ordered : row.first ≤ row.last

-- each of these lines spells its row, in order
abbrev pub AreRows : List Row → List (ℕ × List ℕ) → Type 0
AreRows [] [] = Unit {0}
AreRows (row ∷ rows) (line ∷ lines) = SpellsRow row line.1 × AreRows rows lines
AreRows _ _ = ⊥

-- the bytes are a table of these rows: each line that is not dropped spells one row
abbrev pub SpellsTable : List Row → List ℕ → Type 0
SpellsTable rows text = AreRows rows (lines_left text)

-- Equal bytes are tables of equal rows.
abbrev pub SameBytesSameRows : Type 0
SameBytesSameRows =
    (text : List ℕ) (rows others : List Row) → SpellsTable rows text → SpellsTable others text
    → rows ≡ others

-- n is the number of the first of these lines that spells no row
abbrev pub IsFirstOther : List (ℕ × List ℕ) → ℕ → Type 0
IsFirstOther [] n = ⊥
IsFirstOther (line ∷ lines) n =
    ((line.0 ≡ n) × ((row : Row) → SpellsRow row line.1 → ⊥))
    ⊎ ((row : Row) × SpellsRow row line.1 × IsFirstOther lines n)

-- the fault names the first line that spells no row; out of memory says nothing of the lines
abbrev pub NamesLine : List (ℕ × List ℕ) → StationFault → Type 0
NamesLine lines Memory = Unit {0}
NamesLine lines (Stations n) = IsFirstOther lines n

-- ---- the row that counts

-- whether a row is of the station and has the day
abbrev pub covers : Row → List ℕ → ℕ → Bool
covers row station day =
    bytes_eq row.station station && (nat_le row.first day && nat_le day row.last)

-- the variation of the first row that covers the station and the day
abbrev pub variation_at : List Row → List ℕ → ℕ → Option Offset
variation_at [] station day = None
variation_at (row ∷ rows) station day =
    if covers row station day then Some row.variation else variation_at rows station day

-- the number of each fault
abbrev pub station_fault_number : StationFault → ℕ
station_fault_number Memory = 90
station_fault_number (Stations n) = 39
