-- Reading the sections of a file: which of them are left, and what each call returns.
use Rattle.std.specs.Prelude.{◌≡◌, ◌⊎◌, ◌<◌, ℕ, ◌+◌, ◌-◌, ◌*◌, ◌%◌, ◌^◌, Bool, true, List, [], ◌∷◌}
use Rattle.std.specs.Prelude.{length, suc, Option, Some, None, Result, Ok, Err}
use Rattle.ssim_records.specs.Device.{Reader}
use Rattle.ssim_records.specs.Frames.{others}
use Rattle.ssim_records.specs.Header.{HeaderFields, SpellsHeader}
use Rattle.ssim_records.specs.clauses.Blocks.{beyond}
use Rattle.ssim_records.specs.clauses.Reading.{IsAhead, Reading}
use Rattle.ssim_records.specs.declared.fault.RecordFault.TheVariants as record_fault
use Rattle.ssim_records.specs.declared.record.Record.{Record}
use Rattle.ssim_records.specs.declared.record.Record.TheVariants.{Header}
use Rattle.ssim_records.specs.declared.records.Ending.TheVariants as reading
use Rattle.ssim_base.specs.Base.{Ending, Done, Broken}
use Rattle.ssim_base.specs.Problems.{Item}
use Rattle.ssim_base.specs.declared.fault.BaseFault.{BaseFault}
use Rattle.ssim_base.specs.declared.fault.BaseFault.TheVariants as fault
use Rattle.ssim_parts.specs.Sections.{Before, Block, FileEnd, HasBlocks, IsHeaded, RefusesHeading}
use Rattle.ssim_parts.specs.Sections.{SaysInFile, SectionBlocks, SectionNotes, SectionRead, Unread}
use Rattle.ssim_parts.specs.Sections.{Whole, after_items, before_all, begins_as_carrier, cut, file_end}
use Rattle.ssim_parts.specs.Sections.{is_followed, section_end, section_read}
use Rattle.ssim_parts.specs.declared.section.DataSetRead.{DataSetRead}
use Rattle.ssim_parts.specs.declared.section.Section.{Section}

-- The state of reading sections: what comes before the next one, the block that begins it, if there
-- is one, and the state of reading blocks.
pub record SectionsState : Type 0 where
  pub before : Before
  pub next : Option Block
  pub reading : Reading

-- the next block begins a section, and the reading of blocks has begun and has not ended
abbrev pub IsOpen : Option Block → Reading → Type 0
IsOpen None r = Unit {0}
IsOpen (Some block) r = (begins_as_carrier block ≡ true) × (r.ended ≡ None) × (0 < r.number)
    × (r.limit < 2 ^ 64)

-- ---- what is left

-- how a file ended
abbrev pub ended_as : Reading → FileEnd
ended_as r = by r.ended
  where
    by : Option Rattle.ssim_records.specs.declared.records.Ending.Ending → FileEnd
    by (Some reading.End) = Whole (Done (r.number + 1))
    by (Some (reading.Refused fault)) = Whole (Broken fault)
    by None = Unread

-- The reader has these blocks left, and then the file ends so. Nothing is said of a reader that does
-- not report its bytes.
abbrev pub HasLeft : Reading → Option (List ℕ) → List Block → FileEnd → Type 0
HasLeft r None blocks end' = Unit {0}
HasLeft r (Some bytes) blocks end' =
    (all : List (List ℕ)) × (rest : List ℕ) × IsAhead r bytes all rest
    × (blocks ≡ others r.number all)
    × (end' ≡ file_end (r.number + length all + 1) rest (beyond r.limit r.came bytes))

-- these blocks are left of the next section and those after it
abbrev pub IsLeft : SectionsState → Option (List ℕ) → List Block → FileEnd → Type 0
IsLeft s left blocks end' = by s.next
  where
    by : Option Block → Type 0
    by None = (blocks ≡ []) × (end' ≡ ended_as s.reading)
    by (Some first) =
        (later : List Block) × (blocks ≡ first ∷ later) × HasLeft s.reading left later end'

-- these sections are left
abbrev pub AreLeft : SectionsState → Option (List ℕ) → List SectionBlocks → FileEnd → Type 0
AreLeft s left sections end' =
    (blocks : List Block) × IsLeft s left blocks end' × (cut blocks ≡ ([], sections))

-- whatever the bytes are, some sections are left, or none, and then the file ends
abbrev pub HasRest : SectionsState → Option (List ℕ) → Type 0
HasRest s left = (sections : List SectionBlocks) × (end' : FileEnd) × AreLeft s left sections end'

-- A bound of how many sections are left: none, or the next one and one for each byte that the
-- blocks so far leave of the limit.
abbrev pub most_left : SectionsState → ℕ
most_left s = by s.next
  where
    by : Option Block → ℕ
    by None = 0
    by (Some first) = suc (s.reading.limit + 1 - 200 * s.reading.number)

-- What is known of the bytes of a reader, if somebody uses it.
abbrev pub Knows : Option (List ℕ) → Option (List ℕ) → Option (List ℕ) → Option (List ℕ) → Type 0
Knows left left' known known' =
    ((known ≡ None) × (known' ≡ None)) ⊎ ((known ≡ left) × (known' ≡ left'))

-- ---- what a section is

-- the outcome of a section, as contracts see it
abbrev pub outcome_seen : Result DataSetRead BaseFault → Result (List Record × SectionNotes) BaseFault
outcome_seen (Ok read) = Ok (read.data_set, (read.notes.items, read.end_note))
outcome_seen (Err refusal) = Err refusal

-- a section, as contracts see it
abbrev pub section_seen : Section → SectionRead
section_seen section = record {
  airline = section.airline;
  records = section.records;
  outcome = outcome_seen section.outcome;
}

-- the section is what these blocks are read as, which say these items
abbrev pub IsSection : Before → SectionBlocks → Ending → Bool → List (ℕ × Item) → Section → Type 0
IsSection before blocks ending followed items section =
    SaysInFile (blocks.first ∷ blocks.later) items
    × (section_seen section ≡ section_read before blocks ending followed items)

-- ---- what a call returns

-- A call for the next section returns the first one of those left, and then the others are left.
-- Or none is left.
abbrev pub GivesSection : SectionsState → Option (List ℕ) → SectionsState → Option (List ℕ)
    → Option Section → Type 0
GivesSection old left new left' None = AreLeft old left [] (ended_as old.reading)
GivesSection old left new left' (Some section) =
    (sections : List SectionBlocks) (end' : FileEnd) → AreLeft new left' sections end'
    → (blocks : SectionBlocks) × (ending : Ending) × AreLeft old left (blocks ∷ sections) end'
    × (section_end end' sections ≡ Some ending)
    × (items : List (ℕ × Item))
    × IsSection old.before blocks ending (is_followed sections) items section
    × (new.before ≡ after_items old.before items)

-- The reader failed, or has more bytes than the limit: the next section is not read to its end. Or
-- memory ran out.
abbrev pub RefusesNext : SectionsState → Option (List ℕ) → Reader → Reader → BaseFault → Type 0
RefusesNext old known before after fault.Memory =
    (blocks : SectionBlocks) × (later : List SectionBlocks) × (end' : FileEnd)
    × AreLeft old known (blocks ∷ later) end'
RefusesNext old known before after (fault.Read (record_fault.ReadFault n)) =
    (after.failures ≡ (before.failures + 1) % 2 ^ 64)
    × (known ≡ None → (blocks : SectionBlocks) × AreLeft old known (blocks ∷ []) Unread)
RefusesNext old known before after (fault.Read (record_fault.ReaderNeverEnds n)) =
    (blocks : SectionBlocks) × AreLeft old known (blocks ∷ []) Unread
RefusesNext old known before after _ = ⊥

-- ---- how a file begins

-- A file begins with this header, and the sections after it are left.
abbrev pub Begins : ℕ → Option (List ℕ) → SectionsState → Option (List ℕ) → Type 0
Begins limit left new left' =
    (first : Block) × (header : HeaderFields) × SpellsHeader header first.1
    × (new.before ≡ before_all (first.0, Header header))
    × ((sections : List SectionBlocks) (end' : FileEnd) → AreLeft new left' sections end'
    → (blocks : List Block) × HasBlocks limit left (first ∷ blocks) end' × IsHeaded (first ∷ blocks)
    × (cut blocks ≡ ([], sections)))

-- Why the sections of a file are not read: its first blocks are refused, the reader failed, or it has
-- more bytes than the limit.
abbrev pub RefusesFile : ℕ → Option (List ℕ) → Reader → Reader → BaseFault → Type 0
RefusesFile limit known before after fault.Memory = Unit {0}
RefusesFile limit known before after (fault.Read (record_fault.ReadFault n)) =
    after.failures ≡ (before.failures + 1) % 2 ^ 64
RefusesFile limit known before after (fault.Read (record_fault.ReaderNeverEnds n)) =
    (blocks : List Block) × HasBlocks limit known blocks Unread
RefusesFile limit known before after refusal = (blocks : List Block) × (end' : FileEnd)
    × HasBlocks limit known blocks end' × RefusesHeading blocks end' refusal
