-- What is known from block to block of a reading of sections.
use Rattle.std.specs.Prelude.{◌≡◌, ◌<◌, ◌≤◌, Bool, true, false, ℕ, ◌+◌, ◌*◌, ◌%◌, ◌^◌, List, []}
use Rattle.std.specs.Prelude.{◌∷◌, ◌++◌, Option, Some, None}
use Rattle.ssim_records.specs.Device.{Reader}
use Rattle.ssim_records.specs.Header.{HeaderFields, SpellsHeader}
use Rattle.ssim_records.specs.clauses.Reading.{Reading}
use Rattle.ssim_records.specs.declared.fault.RecordFault.TheVariants as record_fault
use Rattle.ssim_records.specs.declared.record.Record.{Record}
use Rattle.ssim_records.specs.declared.record.Record.TheVariants.{Header}
use Rattle.ssim_base.specs.Base.{Broken, Done}
use Rattle.ssim_base.specs.declared.fault.BaseFault.{BaseFault}
use Rattle.ssim_base.specs.declared.fault.BaseFault.TheVariants as fault
use Rattle.ssim_parts.specs.Sections.{Before, Block, FileEnd, RefusesHeading, Unread, Whole, cut}
use Rattle.ssim_parts.specs.clauses.Sections.{HasLeft, IsOpen, Knows, ended_as}
use Rattle.ssim_parts.specs.declared.section_builder.SectionBuilder.{SectionBuilder}
use Rattle.ssim_parts.specs.declared.sections.After.{After}
use Rattle.ssim_parts.specs.declared.sections.After.TheVariants as after
use Rattle.ssim_parts.specs.internal.SectionBlocks.{HasRead}

-- these blocks were read: they come before those that are left now
abbrev pub GoesOn : Reading → Option (List ℕ) → Reading → Option (List ℕ) → List Block → Type 0
GoesOn old known new known' own = (later : List Block) (end' : FileEnd)
    → HasLeft new known' later end' → HasLeft old known (own ++ later) end'

-- none of these blocks begins a section
abbrev pub BeginNone : List Block → Type 0
BeginNone own = (later : List Block) → cut (own ++ later) ≡ (own ++ (cut later).0, (cut later).1)

-- what comes after these blocks
abbrev pub Follows : Reading → Option (List ℕ) → Reading → Option (List ℕ) → List Block → After → Type
    0
Follows old known new known' own (after.Section number block) =
    IsOpen (Some (number, block)) new × GoesOn old known new known' (own ++ (number, block) ∷ [])
Follows old known new known' own (after.End number) =
    (ended_as new ≡ Whole (Done number)) × HasLeft old known own (Whole (Done number))
Follows old known new known' own (after.Cut number) =
    (ended_as new ≡ Whole (Broken (record_fault.Short number)))
    × HasLeft old known own (Whole (Broken (record_fault.Short number)))

-- a section that follows begins with a block that was not read before, within the same limit
abbrev pub BeginsLater : Reading → Reading → After → Type 0
BeginsLater old new (after.Section number block) =
    (new.limit ≡ old.limit) × (old.number < new.number) × (200 * new.number ≤ new.limit + 1)
BeginsLater old new (after.End number) = Unit {0}
BeginsLater old new (after.Cut number) = Unit {0}

-- the blocks of a section after its first one were read
pub record ReadsOwn (old : Reading) (left : Option (List ℕ)) (before : SectionBuilder) (new : Reading)
    (left' : Option (List ℕ)) (now : SectionBuilder) (after : After) : Type 0 where
  pub own : List Block
  pub none : BeginNone own
  pub read : (b : Before) (blocks : List Block) → HasRead b blocks before
      → HasRead b (blocks ++ own) now
  pub follows : (known known' : Option (List ℕ)) → Knows left left' known known'
      → Follows old known new known' own after
  pub later : BeginsLater old new after

-- The reader failed, or has more bytes than the limit: the next section is not read to its end.
abbrev pub RefusesOwn : Reading → Option (List ℕ) → Reader → Reader → BaseFault → Type 0
RefusesOwn old known before after fault.Memory = Unit {0}
RefusesOwn old known before after (fault.Read (record_fault.ReadFault n)) =
    after.failures ≡ (before.failures + 1) % 2 ^ 64
RefusesOwn old known before after (fault.Read (record_fault.ReaderNeverEnds n)) =
    (own : List Block) × BeginNone own × HasLeft old known own Unread
RefusesOwn old known before after _ = ⊥

-- ---- the first two blocks

-- whether a record is a header
abbrev pub is_header : Record → Bool
is_header (Header r) = true
is_header _ = false

-- a header was read
pub record ReadsHeader (old : Reading) (before : Reader) (new : Reading) (after : Reader)
    (found : ℕ × Record) : Type 0 where
  pub block : List ℕ
  pub header : HeaderFields
  pub is : found.1 ≡ Header header
  pub spells : SpellsHeader header block
  pub open' : new.ended ≡ None
  pub limit : new.limit ≡ old.limit
  pub no_failure : after.failures ≡ before.failures
  pub goes : (known known' : Option (List ℕ)) → Knows before.left after.left known known'
      → GoesOn old known new known' ((found.0, block) ∷ [])

-- why no header was read
abbrev pub RefusesHeader : Reading → Option (List ℕ) → Reader → Reader → BaseFault → Type 0
RefusesHeader old known before after fault.Memory = Unit {0}
RefusesHeader old known before after (fault.Read (record_fault.ReadFault n)) =
    after.failures ≡ (before.failures + 1) % 2 ^ 64
RefusesHeader old known before after (fault.Read (record_fault.ReaderNeverEnds n)) =
    (blocks : List Block) × HasLeft old known blocks Unread
RefusesHeader old known before after refusal = (blocks : List Block) × (end' : FileEnd)
    × HasLeft old known blocks end' × RefusesHeading blocks end' refusal

-- the block after the header was read, and begins a section
pub record ReadsCarrier (old : Reading) (left : Option (List ℕ)) (new : Reading)
    (left' : Option (List ℕ)) (found : Block) : Type 0 where
  pub open' : IsOpen (Some found) new
  pub goes : (known known' : Option (List ℕ)) → Knows left left' known known'
      → GoesOn old known new known' (found ∷ [])

-- a header and then these blocks are refused
abbrev pub RefusesAfter : List Block → FileEnd → BaseFault → Type 0
RefusesAfter blocks end' refusal = (first : Block) (header : HeaderFields)
    → SpellsHeader header first.1 → RefusesHeading (first ∷ blocks) end' refusal

-- why no block that begins a section was read
abbrev pub RefusesCarrier : Reading → Option (List ℕ) → Reader → Reader → BaseFault → Type 0
RefusesCarrier old known before after fault.Memory = Unit {0}
RefusesCarrier old known before after (fault.Read (record_fault.ReadFault n)) =
    after.failures ≡ (before.failures + 1) % 2 ^ 64
RefusesCarrier old known before after (fault.Read (record_fault.ReaderNeverEnds n)) =
    (blocks : List Block) × HasLeft old known blocks Unread
RefusesCarrier old known before after refusal = (blocks : List Block) × (end' : FileEnd)
    × HasLeft old known blocks end' × RefusesAfter blocks end' refusal
