-- The desk file: the bytes as which a desk is saved. Its elements are lines, records and texts, one
-- after another; each line and each record ends with LF, and a text with the LF of its own last
-- line. Numbers are decimal without leading zeros.
use Rattle.std.specs.Prelude.{◌≡◌, ◌⊎◌, ℕ, ◌≤◌, ◌<◌, ◌^◌, List, [], ◌∷◌, ◌++◌, length, take, drop, codes, All}
use Rattle.std.specs.Prelude.{IsTrue}
use Rattle.std.specs.Fmt.{decimal}
use Rattle.std.specs.List.{flat_map}
use Rattle.ssim_records.specs.declared.record.Record.{Record}
use Rattle.ssim_base.specs.BaseSeen.{BaseSeen}
use Rattle.ssim_base.specs.SavedBase.{IsBaseRecords, saved}
use Rattle.ssim_base.specs.Stations.{Row}
use Rattle.ssim_text.specs.Canonical.{canonical}
use Rattle.ssim_text.specs.Spelling.{SpellsMessage}
use Rattle.ssim_text.specs.Values.{no_originator}
use Rattle.ssim_values.specs.Calendar.{day_limit}
use Rattle.ssim_values.specs.Day.{day_text}
use Rattle.ssim_values.specs.Station.{is_station}
use Rattle.ssim_values.specs.Variation.{variation_text}
use Rattle.ssim_held.specs.Entries.{AreEntries, Entry}

-- ---- the elements

-- a word and a number, as `RECORDS 4`
abbrev pub counted : List ℕ → ℕ → List ℕ
counted word n = word ++ 32 ∷ (decimal n ++ 10 ∷ [])

-- a row of the station table with single blanks, without the LF, as `ZRH 30MAR25 25OCT25 +0200`
abbrev pub row_text : Row → List ℕ
row_text row =
    row.station
    ++ 32 ∷ (day_text row.first ++ 32 ∷ (day_text row.last ++ 32 ∷ variation_text row.variation))

-- the text of a row with its LF: 26 bytes
abbrev pub row_line : Row → List ℕ
row_line row = row_text row ++ 10 ∷ []

-- a held message: the length of its canonical text, and the text
abbrev pub text_element : Entry → List ℕ
text_element e = counted (codes "TEXT") (length (canonical e.message)) ++ canonical e.message

-- ---- the parts

-- the number of the records, and the records in their order
abbrev pub records_part : List Record → List ℕ
records_part records = counted (codes "RECORDS") (length records) ++ saved records

-- the number of the rows of the station table, and the rows in their order
abbrev pub rows_part : List Row → List ℕ
rows_part rows = counted (codes "STATIONS") (length rows) ++ flat_map row_line rows

-- the number of the messages, and the messages in order of reference
abbrev pub texts_part : List Entry → List ℕ
texts_part entries = counted (codes "TEXTS") (length entries) ++ flat_map text_element entries

-- the last line
abbrev pub end_line : List ℕ
end_line = codes "END" ++ 10 ∷ []

-- what follows the first line
abbrev pub after_first_line : BaseSeen → List Entry → List ℕ
after_first_line base entries =
    records_part base.records ++ (rows_part base.rows ++ (texts_part entries ++ end_line))

-- ---- the file

-- the file of a base and the messages that are held: version 2
abbrev pub desk_file : BaseSeen → List Entry → List ℕ
desk_file base entries = counted (codes "SSIMDESK") 2 ++ after_first_line base entries

-- a row of a station table
pub record IsRow (row : Row) : Type 0 where
  pub station : IsTrue (is_station row.station)
  pub ordered : row.first ≤ row.last
  pub in_calendar : row.last < day_limit
  pub variation : row.variation.minutes ≤ 900

-- a text spells the message, so its canonical text does
abbrev pub IsSpelled : Entry → Type 0
IsSpelled e = SpellsMessage e.message (canonical e.message)

-- the message has no originator line
abbrev pub HasNoOriginator : Entry → Type 0
HasNoOriginator e = e.message.originator ≡ no_originator

-- These are the base of a desk and the messages that it holds.
pub record CanBeSaved (base : BaseSeen) (entries : List Entry) : Type 0 where
  pub is_base : IsBaseRecords base.records
  pub rows : All IsRow base.rows
  pub entries_are : AreEntries base.records entries
  pub spelled : All IsSpelled entries

-- the bytes are a file of the base and the messages: of version 2, or of version 1, which had no
-- originators
abbrev pub IsFileOf : List ℕ → BaseSeen → List Entry → Type 0
IsFileOf bytes base entries =
    (bytes ≡ desk_file base entries)
    ⊎ ((bytes ≡ counted (codes "SSIMDESK") 1 ++ after_first_line base entries)
    × All HasNoOriginator entries)

-- the bytes are the desk file of a base and of the messages that are held
pub record IsDeskFile (bytes : List ℕ) (base : BaseSeen) (entries : List Entry) : Type 0 where
  pub saved : CanBeSaved base entries
  pub is_file : IsFileOf bytes base entries

-- No two desks have the same file, if it has fewer than 2^64 bytes.
abbrev pub NoTwoDesks : Type 0
NoTwoDesks =
    (bytes : List ℕ) (base other : BaseSeen) (entries others : List Entry) → length bytes < 2 ^ 64
    → IsDeskFile bytes base entries → IsDeskFile bytes other others
    → (base ≡ other) × (entries ≡ others)

-- A desk opened from a saved file is the desk that was saved.
abbrev pub OpensAsSaved : Type 0
OpensAsSaved =
    (bytes : List ℕ) (base other : BaseSeen) (entries others : List Entry) → length bytes < 2 ^ 64
    → CanBeSaved base entries → bytes ≡ desk_file base entries → IsDeskFile bytes other others
    → (other ≡ base) × (others ≡ entries)

-- the file that was opened is saved as the same bytes, except for a first line of version 1
pub record IsSavedAgain (bytes : List ℕ) (base : BaseSeen) (entries : List Entry) : Type 0 where
  pub version_2 : take 11 bytes ≡ counted (codes "SSIMDESK") 2 → desk_file base entries ≡ bytes
  pub version_1 : desk_file base entries ≡ counted (codes "SSIMDESK") 2 ++ drop 11 bytes

-- A desk opened from any valid file is saved as that file's bytes, but for the version in the first
-- line.
abbrev pub SavesAsOpened : Type 0
SavesAsOpened =
    (bytes : List ℕ) (base : BaseSeen) (entries : List Entry) → IsDeskFile bytes base entries
    → IsSavedAgain bytes base entries
