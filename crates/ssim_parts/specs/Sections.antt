-- A file of several carriers: where it is cut into sections, one a carrier, and what each is read as.
use Rattle.std.specs.Prelude.{◌≡◌, ℕ, ◌+◌, ◌-◌, ◌==◌, ◌&&◌, Bool, true, false, if◌then◌else◌}
use Rattle.std.specs.Prelude.{zero, suc, slice_index, slice_set, List, [], ◌∷◌, ◌++◌, length, map}
use Rattle.std.specs.Prelude.{Option, Some, None, Result, Ok, Err}
use Rattle.ssim_records.specs.Frames.{others}
use Rattle.ssim_records.specs.Header.{SpellsHeader, HeaderFields}
use Rattle.ssim_records.specs.Record.{serial_of}
use Rattle.ssim_records.specs.declared.fault.RecordFault.TheVariants.{Short}
use Rattle.ssim_records.specs.declared.record.Record.{Record}
use Rattle.ssim_records.specs.declared.record.Record.TheVariants.{Carrier}
use Rattle.ssim_base.specs.Base.{Ending, Done, Broken, Outcome, data_set, notes_of}
use Rattle.ssim_base.specs.Problems.{AreItems, Item}
use Rattle.ssim_base.specs.Reading.{AreBlocks}
use Rattle.ssim_base.specs.declared.fault.BaseFault.{BaseFault}
use Rattle.ssim_base.specs.declared.note.Note.{Note}

-- ---- the blocks of a file

-- a block of 200 bytes that is no fill, with its number: the first of all blocks has 1
abbrev pub Block : Type 0
Block = ℕ × List ℕ

-- How a file ends: after its last block, or within a record. Or it is not read to its end, since the
-- reader fails or more bytes come than the limit.
pub data FileEnd : Type 0 where
  Whole : Ending → FileEnd
  Unread : FileEnd

-- how a file ends in which this number comes after the last block, then these bytes, and then
-- `over` bytes after the limit
abbrev pub file_end : ℕ → List ℕ → ℕ → FileEnd
file_end number [] zero = Whole (Done number)
file_end number (byte ∷ rest) zero = Whole (Broken (Short number))
file_end number rest (suc over) = Unread

-- The bytes of a file have these blocks, and it ends so. Nothing is said of a reader that does not
-- report its bytes.
abbrev pub HasBlocks : ℕ → Option (List ℕ) → List Block → FileEnd → Type 0
HasBlocks limit None blocks end' = Unit {0}
HasBlocks limit (Some bytes) blocks end' =
    (all : List (List ℕ)) × (rest : List ℕ) × AreBlocks limit bytes all rest
    × (blocks ≡ others 0 all)
    × (end' ≡ file_end (length all + 1) rest (length bytes - limit))

-- ---- where it is cut

-- whether a block begins with `2`, as a carrier record does
abbrev pub begins_as_carrier : Block → Bool
begins_as_carrier block = slice_index block.1 0 == 50

-- a section: the block that begins it, and the blocks before the next section
pub record SectionBlocks : Type 0 where
  pub first : Block
  pub later : List Block

-- one more block: it begins a section, or it is put before the blocks that begin none
abbrev pub put_before : Block → List Block × List SectionBlocks → List Block × List SectionBlocks
put_before block (own, sections) = if begins_as_carrier block
    then ([], record { first = block; later = own } ∷ sections) else (block ∷ own, sections)

-- Blocks, cut before each that begins with `2`: those before the first of these, and the sections.
abbrev pub cut : List Block → List Block × List SectionBlocks
cut [] = ([], [])
cut (block ∷ blocks) = put_before block (cut blocks)

-- how a section ends before these sections, if it does: a record that is missing at its end has the
-- number of the next section's first record
abbrev pub section_end : FileEnd → List SectionBlocks → Option Ending
section_end end' (next ∷ later) = Some (Done next.first.0)
section_end (Whole ending) [] = Some ending
section_end Unread [] = None

-- whether a section follows
abbrev pub is_followed : List SectionBlocks → Bool
is_followed [] = false
is_followed (next ∷ later) = true

-- ---- what blocks say

-- whether the end code of a block announces another carrier, if the block is a trailer
abbrev pub announces : List ℕ → Bool
announces bytes = slice_index bytes 193 == 67

-- the bytes of a block as they are in a file of one carrier: a trailer with `E` for the code `C`
abbrev pub of_one_carrier : List ℕ → List ℕ
of_one_carrier bytes = if (slice_index bytes 0 == 53) && announces bytes
    then slice_set bytes 193 69 else bytes

-- what the blocks of a section say in a file of one carrier
abbrev pub SaysInFile : List Block → List (ℕ × Item) → Type 0
SaysInFile blocks items = AreItems (map (λ b. (b.0, of_one_carrier b.1)) blocks) items

-- the records before the first block that spells none
abbrev pub records_in : List (ℕ × Item) → List (ℕ × Record)
records_in [] = []
records_in ((number, Ok r) ∷ items) = (number, r) ∷ records_in items
records_in ((number, Err fault) ∷ items) = []

-- how these records end: at that block, or as all blocks do
abbrev pub ending_in : Ending → List (ℕ × Item) → Ending
ending_in ending [] = ending
ending_in ending ((number, Ok r) ∷ items) = ending_in ending items
ending_in ending ((number, Err fault) ∷ items) = Broken fault

-- the airline of the carrier record, if a block spells one
abbrev pub airline_in : List (ℕ × Item) → Option (List ℕ)
airline_in [] = None
airline_in ((number, Ok (Carrier r)) ∷ items) = Some r.airline
airline_in (item ∷ items) = airline_in items

-- the serial of the last record, or the serial before if there is none
abbrev pub serial_after : ℕ → List (ℕ × Item) → ℕ
serial_after before [] = before
serial_after before ((number, Ok r) ∷ items) = serial_after (serial_of r) items
serial_after before ((number, Err fault) ∷ items) = serial_after before items

-- ---- what a section is read as

-- What comes before a section: the header with its number; the notes on it, of which the first
-- section alone has any; and the serial of the record before.
pub record Before : Type 0 where
  pub header : ℕ × Record
  pub notes : List Note
  pub serial : ℕ

-- before the first section
abbrev pub before_all : ℕ × Record → Before
before_all header =
    record { header = header; notes = notes_of 0 (header ∷ []); serial = serial_of header.1 }

-- before the section after these blocks
abbrev pub after_items : Before → List (ℕ × Item) → Before
after_items before items =
    record before { notes = []; serial = serial_after before.serial items }

-- a note on an end code: whether it announces another carrier, and whether one follows
abbrev pub code_note : (announced followed : Bool) → ℕ → Option ℕ
code_note true true number = None
code_note false false number = None
code_note announced followed number = Some number

-- The note on the end code of the last block, with its number: it announces another carrier and none
-- follows, or one follows that it does not announce.
abbrev pub end_note : Bool → Block → List Block → Option ℕ
end_note followed last [] = code_note (announces last.1) followed last.0
end_note followed block (next ∷ later) = end_note followed next later

-- the notes on a section: on its records, and on its end code
abbrev pub SectionNotes : Type 0
SectionNotes = List Note × Option ℕ

-- What a section is read as: its airline, unless its first block spells no carrier record; how many
-- records other than fill it has; and its data set with the notes, or why it is refused.
pub record SectionRead : Type 0 where
  pub airline : Option (List ℕ)
  pub records : ℕ
  pub outcome : Result (List Record × SectionNotes) BaseFault

-- an outcome with these notes
abbrev pub with_notes : SectionNotes → Outcome → Result (List Record × SectionNotes) BaseFault
with_notes notes (Ok set) = Ok (set.0, notes)
with_notes notes (Err fault) = Err fault

-- A section whose blocks say these items is read after the header as a data set.
abbrev pub section_read : Before → SectionBlocks → Ending → Bool → List (ℕ × Item) → SectionRead
section_read before section ending followed items = record {
  airline = airline_in items;
  records = length items;
  outcome = with_notes (
    before.notes ++ notes_of before.serial (records_in items),
    end_note followed section.first section.later,
  )
      (data_set (ending_in ending items) (before.header ∷ records_in items));
}

-- ---- how a file begins

-- it begins with a header, and then with a block that begins with `2`
abbrev pub IsHeaded : List Block → Type 0
IsHeaded (first ∷ second ∷ later) =
    ((header : HeaderFields) × SpellsHeader header first.1) × (begins_as_carrier second ≡ true)
IsHeaded _ = ⊥

-- a file ends so after some blocks, if no other blocks come after them
abbrev pub EndsAs : List Block → FileEnd → Ending → Type 0
EndsAs [] (Whole ending) other = other ≡ ending
EndsAs [] Unread other = Unit {0}
EndsAs (next ∷ later) end' other = Unit {0}

-- A file that does not begin so is refused as a data set is: its first blocks are refused, whatever
-- blocks come after them.
abbrev pub RefusesHeading : List Block → FileEnd → BaseFault → Type 0
RefusesHeading blocks end' fault =
    (IsHeaded blocks → ⊥)
    × (first : List Block) × (later : List Block) × (blocks ≡ first ++ later)
    × (items : List (ℕ × Item)) × AreItems first items
    × ((ending : Ending) → EndsAs later end' ending
    → data_set (ending_in ending items) (records_in items) ≡ Err fault)
