-- A data set of several carriers, of which each section is kept as a data set or is refused.
use Rattle.std.specs.Prelude.{◌≡◌, ◌⊎◌, ℕ, ◌+◌, ◌-◌, Bool, true, false, zero, suc}
use Rattle.std.specs.Prelude.{List, [], ◌∷◌, ◌++◌, codes, length}
use Rattle.std.specs.Prelude.{Option, Some, None, Ok, Err}
use Rattle.std.specs.Fmt.{decimal}
use Rattle.std.specs.List.{count_by, flat_map}
use Rattle.std.specs.Str.{bytes_eq}
use Rattle.ssim_values.specs.Airline.{airline_text}
use Rattle.ssim_values.specs.Flight.{FlightNumber}
use Rattle.ssim_records.specs.Header.{SpellsHeader, HeaderFields}
use Rattle.ssim_records.specs.declared.record.Record.{Record}
use Rattle.ssim_records.specs.declared.record.Record.TheVariants.{Header}
use Rattle.ssim_base.specs.Base.{Ending, airline_of}
use Rattle.ssim_base.specs.BaseSeen.{AreFlights}
use Rattle.ssim_base.specs.Export.{line}
use Rattle.ssim_base.specs.Problems.{Item}
use Rattle.ssim_base.specs.Timetable.{days_of}
use Rattle.ssim_base.specs.declared.fault.BaseFault.{BaseFault}
use Rattle.ssim_parts.specs.Sections.{Before, Block, FileEnd, HasBlocks, IsHeaded, RefusesHeading}
use Rattle.ssim_parts.specs.Sections.{SaysInFile, SectionBlocks, SectionNotes, SectionRead}
use Rattle.ssim_parts.specs.Sections.{after_items, before_all, cut, is_followed, section_end}
use Rattle.ssim_parts.specs.Sections.{section_read}
use Rattle.ssim_command_line.specs.Line.{Text}
use Rattle.ssim_program.specs.Acts.{Act, Acts, Print, Keep, prints_then}
use Rattle.ssim_program.specs.Answer.{Answer, Gives, ◌>>=◌}
use Rattle.ssim_program.specs.Exports.{ReadsAsItself, export_in}
use Rattle.ssim_program.specs.Files.{Files, IsOpened, with_kept}
use Rattle.ssim_program.specs.Made.{RefusesWithin, note_line}
use Rattle.ssim_program.specs.Places.{place_in}
use Rattle.ssim_program.specs.print.Names.{printed_name}
use Rattle.ssim_program.specs.print.Refusal.{IsMemory, refusal_text}
use Rattle.ssim_program.specs.declared.content_kind.ContentKind.TheVariants as kind
use Rattle.ssim_program.specs.declared.refusal.Refusal.{Refusal}
use Rattle.ssim_program.specs.declared.refusal.Refusal.TheVariants as refused

-- ---- the file that is split

-- the most bytes that it may have, 2^40
abbrev pub split_limit : ℕ
split_limit = 1099511627776

-- why the file is not read
abbrev pub RefusesRead : Option Files → Text → Refusal → Type 0
RefusesRead files name why = RefusesWithin split_limit files name why

-- the blocks of the file of this name, and how it ends
abbrev pub blocks_in : Option Files → Text → Answer (List Block × FileEnd)
blocks_in files name (Ok found) =
    (left : Option (List ℕ)) × IsOpened files name left × HasBlocks split_limit left found.0 found.1
blocks_in files name (Err why) = RefusesRead files name why

-- The header, with its number. It comes first, and then comes a block that begins with `2`.
abbrev pub header_in : Option Files → Text → List Block × FileEnd → Answer (ℕ × Record)
header_in files name found (Ok header) = IsHeaded found.0 × IsFirst header found.0
  where
    IsFirst : ℕ × Record → List Block → Type 0
    IsFirst header [] = ⊥
    IsFirst header (first ∷ later) = (header.0 ≡ first.0) × (h : HeaderFields)
        × (header.1 ≡ Header h) × SpellsHeader h first.1
header_in files name found (Err why) =
    ((fault : BaseFault) × RefusesHeading found.0 found.1 fault × (why ≡ refused.DataSet fault))
    ⊎ RefusesRead files name why

-- ---- the file of a section

-- a section that is done: its airline, unless its carrier record is invalid, and whether it is kept
abbrev pub Section : Type 0
Section = Option (List ℕ) × Bool

-- whether a section is of an airline
abbrev pub is_of : List ℕ → Section → Bool
is_of airline (Some other, kept) = bytes_eq other airline
is_of airline (None, kept) = false

-- the number of a section in the name of its file, after so many sections of the airline: the first
-- has none
abbrev pub number_text : ℕ → List ℕ
number_text zero = []
number_text (suc before) = 45 ∷ decimal (suc (suc before))

-- the name of the file of an airline's section, after the sections that are done
abbrev pub name_of : Text → List ℕ → List Section → Text
name_of prefix airline done =
    prefix ++ airline_text airline ++ number_text (count_by (is_of airline) done) ++ codes ".ssim"

-- ---- what is printed

-- the line of the note on an end code
abbrev pub end_note_lines : Option ℕ → List ℕ
end_note_lines None = []
end_note_lines (Some number) = line (codes "note Continuation record " ++ decimal number)

-- the lines of the notes on a section
abbrev pub notes_lines : SectionNotes → List ℕ
notes_lines (notes, end_note) = flat_map note_line notes ++ end_note_lines end_note

-- the number of notes on a section
abbrev pub notes_count : SectionNotes → ℕ
notes_count (notes, None) = length notes
notes_count (notes, Some number) = length notes + 1

-- how many records other than fill a section has, flights and notes
abbrev pub numbers_text : ℕ → ℕ → ℕ → List ℕ
numbers_text records flights notes =
    codes " records " ++ decimal records ++ codes " flights " ++ decimal flights
    ++ codes " notes " ++ decimal notes

-- the line of a section of an airline that is kept, by the text of its file's name
abbrev pub kept_text : List ℕ → List ℕ → ℕ → ℕ → ℕ → List ℕ
kept_text airline name records flights notes =
    line ((airline_text airline ++ codes " kept " ++ name) ++ numbers_text records flights notes)

-- the line of a section that is kept in a file of this name
abbrev pub kept_line : List ℕ → Text → ℕ → ℕ → ℕ → List ℕ
kept_line airline name records flights notes =
    kept_text airline (printed_name name) records flights notes

-- the airline of a section as it is printed
abbrev pub section_text : Option (List ℕ) → List ℕ
section_text (Some airline) = airline_text airline
section_text None = codes "?"

-- the line of a section that is refused
abbrev pub refused_line : Option (List ℕ) → Refusal → List ℕ
refused_line airline why = line (section_text airline ++ 32 ∷ refusal_text why)

-- the last line: how many sections there are, how many of them are kept, and how many refused
abbrev pub counts_line : ℕ → ℕ → List ℕ
counts_line sections kept =
    line (codes "carriers " ++ decimal sections ++ codes " kept " ++ decimal kept
    ++ codes " refused " ++ decimal (sections - kept))

-- the last line of these sections
abbrev pub count_line : List Section → List ℕ
count_line done = counts_line (length done) (count_by (λ s. s.1) done)

-- ---- what becomes of a section

-- it is kept in a file of this name, with these bytes, and the lines are printed; or the line of its
-- refusal is printed
pub data SectionFate : Type 0 where
  KeptAs : (name : Text) (bytes lines : List ℕ) → SectionFate
  RefusedAs : (line : List ℕ) → SectionFate

-- whether a section is kept
abbrev pub is_kept : SectionFate → Bool
is_kept (KeptAs name bytes lines) = true
is_kept (RefusedAs line) = false

-- The data set of a section is kept: its canonical export, which is read as itself.
pub record IsKeptAs (prefix : Text) (done : List Section) (read : SectionRead) (name : Text)
    (bytes lines : List ℕ) : Type 0 where
  pub base : List Record
  pub notes : SectionNotes
  pub flights : List FlightNumber
  pub outcome : read.outcome ≡ Ok (base, notes)
  pub export : export_in base (days_of base) (Ok bytes)
  pub again : ReadsAsItself bytes
  pub are_flights : AreFlights base flights
  pub name_is : name ≡ name_of prefix (airline_of base) done
  pub lines_are : lines ≡ notes_lines notes
      ++ kept_line (airline_of base) name read.records (length flights) (notes_count notes)

-- Why a section is refused: it is no data set, or its data set has no export (50 or 51).
abbrev pub RefusesSection : SectionRead → Refusal → Type 0
RefusesSection read why =
    ((fault : BaseFault) × (read.outcome ≡ Err fault) × (why ≡ refused.DataSet fault))
    ⊎ ((base : List Record) × (notes : SectionNotes) × (read.outcome ≡ Ok (base, notes))
    × export_in base (days_of base) (Err why))

-- what becomes of a section after those that are done
abbrev pub fate_of : Text → List Section → SectionRead → Answer SectionFate
fate_of prefix done read (Ok (KeptAs name bytes lines)) =
    IsKeptAs prefix done read name bytes lines
fate_of prefix done read (Ok (RefusedAs line)) =
    (why : Refusal) × RefusesSection read why × (line ≡ refused_line read.airline why)
fate_of prefix done read (Err why) = IsMemory why

-- ---- the sections, one after another

-- the file is kept, the lines are printed, and then comes what is next, be it a refusal
abbrev pub keeps_then : Text → List ℕ → List ℕ → Answer (List Act) → Answer (List Act)
keeps_then name bytes lines next (Ok acts) =
    (later : List Act) × Acts next later × (acts ≡ Keep name bytes ∷ Print lines ∷ later)
keeps_then name bytes lines next (Err why) = ⊥

-- What is done with a section, and then what is next, over the files after it. A file that is there
-- is replaced if it is empty or a data set.
abbrev pub acts_of : Option Files → SectionFate → (Option Files → Answer (List Act)) → Answer (List Act)
acts_of files (KeptAs name bytes lines) next = do
  place ← place_in files name kind.DataSet
  keeps_then name bytes lines (next (with_kept ((name, bytes) ∷ []) files))
acts_of files (RefusedAs line) next = prints_then line (next files)

-- how a section ends before these; the file is refused if it is not read to the end of the section
abbrev pub end_in : Option Files → Text → FileEnd → List SectionBlocks → Answer Ending
end_in files name end' later (Ok ending) = section_end end' later ≡ Some ending
end_in files name end' later (Err why) =
    IsMemory why ⊎ ((section_end end' later ≡ None) × RefusesRead files name why)

-- what the blocks of a section say
abbrev pub items_in : SectionBlocks → Answer (List (ℕ × Item))
items_in section (Ok items) = SaysInFile (section.first ∷ section.later) items
items_in section (Err why) = IsMemory why

-- Each section is kept or refused, after those that are done, and its lines are printed. At last the
-- numbers of sections are printed. `files` are those in which the file was opened, `now` those of
-- today's state.
abbrev pub split_each : Option Files → Text → Text → FileEnd → Option Files → List Section → Before
    → List SectionBlocks → Answer (List Act)
split_each files name prefix end' now done before [] = Gives (Print (count_line done) ∷ [])
split_each files name prefix end' now done before (section ∷ later) = do
  ending ← end_in files name end' later
  items ← items_in section
  made ← fate_of prefix done (section_read before section ending (is_followed later) items)
  acts_of now made (λ after. split_each files name prefix end' after
      (done ++ ((section_read before section ending (is_followed later) items).airline, is_kept made) ∷ [])
      (after_items before items) later)

-- the sections after the header, which is the first of these blocks
abbrev pub sections_of : List Block → List SectionBlocks
sections_of [] = []
sections_of (first ∷ later) = (cut later).1

-- A data set of several carriers is split: what becomes of its sections, one after another.
abbrev pub split : Option Files → Text → Text → Answer (List Act)
split files name prefix = do
  found ← blocks_in files name
  header ← header_in files name found
  split_each files name prefix found.1 files [] (before_all header) (sections_of found.0)
