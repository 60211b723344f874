-- What is known of a section that is read block by block.
use Rattle.std.specs.Prelude.{◌≡◌, ℕ, Bool, List, [], ◌∷◌, ◌++◌, length, map}
use Rattle.std.specs.Prelude.{Option, Some, None, Ok, Err}
use Rattle.ssim_records.specs.declared.record.Record.{Record}
use Rattle.ssim_base.specs.Base.{Ending, data_set, notes_of}
use Rattle.ssim_base.specs.Problems.{Item}
use Rattle.ssim_base.specs.clauses.Building.{HasBuilt}
use Rattle.ssim_base.specs.declared.fault.BaseFault.{BaseFault}
use Rattle.ssim_parts.specs.Sections.{Before, Block, SaysInFile, airline_in, code_note, end_note}
use Rattle.ssim_parts.specs.Sections.{ending_in, records_in, serial_after}
use Rattle.ssim_parts.specs.declared.section_builder.SectionBuilder.{SectionBuilder}

-- numbered records, as what blocks say
abbrev pub as_items : List (ℕ × Record) → List (ℕ × Item)
as_items records = map (λ r. (r.0, Ok r.1)) records

-- the section is refused in this way, whatever blocks come after these
abbrev pub IsRefused : Before → List (ℕ × Item) → BaseFault → Type 0
IsRefused before items refusal = (ending : Ending) (later : List (ℕ × Item))
    → data_set (ending_in ending (items ++ later)) (before.header ∷ records_in (items ++ later))
    ≡ Err refusal

-- the blocks spell these records, and each is valid after those before it
pub record AreValid (before : Before) (items : List (ℕ × Item)) (b : SectionBuilder) : Type 0 where
  pub records : List (ℕ × Record)
  pub are : items ≡ as_items records
  pub built : HasBuilt b.builder (before.header ∷ records)
  pub notes : b.builder.reader.notes.items ≡ before.notes ++ notes_of before.serial records
  pub previous : b.builder.reader.previous ≡ serial_after before.serial items

-- what is known of the records so far, by the refusal
abbrev pub AreKnown : Before → List (ℕ × Item) → SectionBuilder → Option BaseFault → Type 0
AreKnown before items b None = AreValid before items b
AreKnown before items b (Some refusal) = IsRefused before items refusal

-- the number and the end code of the latest block
abbrev pub HasLast : List Block → SectionBuilder → Type 0
HasLast [] b = Unit {0}
HasLast (first ∷ later) b =
    (followed : Bool) → end_note followed first later ≡ code_note b.announces followed b.last

-- what the blocks so far say
pub record HasItems (before : Before) (items : List (ℕ × Item)) (b : SectionBuilder) : Type 0 where
  pub airline : b.airline ≡ airline_in items
  pub serial : b.serial ≡ serial_after before.serial items
  pub known : AreKnown before items b b.refusal

-- the blocks of a section so far
pub record HasRead (before : Before) (blocks : List Block) (b : SectionBuilder) : Type 0 where
  pub items : List (ℕ × Item)
  pub says : SaysInFile blocks items
  pub has : HasItems before items b
  pub records : b.records ≡ length items
  pub last : HasLast blocks b

-- one more block says this; the numbers of blocks and the latest block are the same
pub record Adds (old new : SectionBuilder) (item : ℕ × Item) : Type 0 where
  pub has : (before : Before) (items : List (ℕ × Item)) → HasItems before items old
      → HasItems before (items ++ item ∷ []) new
  pub records : new.records ≡ old.records
  pub last : new.last ≡ old.last
  pub announces : new.announces ≡ old.announces

-- the airline is that of the carrier record, unless there was one before; all else is the same
pub record NamesAirline (old new : SectionBuilder) (one : Record) : Type 0 where
  pub airline : (items : List (ℕ × Item)) (number : ℕ) → old.airline ≡ airline_in items
      → new.airline ≡ airline_in (items ++ (number, Ok one) ∷ [])
  pub same : new ≡ record old { airline = new.airline }
