-- What the bytes of a data set are read as.
use Rattle.std.specs.Prelude.{◌≡◌, ◌⊎◌, ℕ, ◌+◌, ◌-◌, ◌<◌, ◌≤◌, false, IfSome}
use Rattle.std.specs.Prelude.{List, [], ◌∷◌, ◌++◌, length, Option, Some, None, Ok, Err}
use Rattle.std.specs.List.{All}
use Rattle.ssim_records.specs.Frames.{Frames, others}
use Rattle.ssim_records.specs.Record.{IsRecord, Spells, fault_of}
use Rattle.ssim_records.specs.declared.fault.RecordFault.{RecordFault}
use Rattle.ssim_records.specs.declared.fault.RecordFault.TheVariants.{Short, BadType, BadColumn, ReadFault, ReaderNeverEnds}
use Rattle.ssim_records.specs.declared.record.Record.{Record}
use Rattle.ssim_base.specs.Base.{Ending, Done, Broken, Outcome, data_set}
use Rattle.ssim_base.specs.ReadBack.{AreRead}
use Rattle.ssim_base.specs.declared.fault.BaseFault.TheVariants as fault
use Rattle.ssim_base.specs.declared.note.Note.{Note}

-- the first of these numbered blocks spells no record, for the reason that the fault names
abbrev pub IsFaulty : List (ℕ × List ℕ) → ℕ → RecordFault → Type 0
IsFaulty left number fault =
    (block : List ℕ) × (later : List (ℕ × List ℕ)) × (left ≡ (number, block) ∷ later)
    × (fault_of number block ≡ Some fault)

-- How the records end. `left` has the numbered blocks that are not yet read, none of them fill;
-- `count` is the number of all blocks, `rest` the bytes after them, `beyond` the number of bytes
-- after the limit. The records end at the end of the bytes, within a record, at the limit, at a
-- failure of the reader, or at a block that spells no record.
abbrev pub Stops : ℕ → List ℕ → ℕ → List (ℕ × List ℕ) → Ending → Type 0
Stops count rest beyond left (Done number) =
    (left ≡ []) × (rest ≡ []) × (beyond ≡ 0) × (number ≡ count + 1)
Stops count rest beyond left (Broken (Short number)) =
    (left ≡ []) × (0 < length rest) × (beyond ≡ 0) × (number ≡ count + 1)
Stops count rest beyond left (Broken (ReaderNeverEnds number)) =
    (left ≡ []) × (0 < beyond) × (number ≡ count + 1)
Stops count rest beyond left (Broken (ReadFault number)) = number ≤ count + 1
Stops count rest beyond left (Broken (BadType number)) = IsFaulty left number (BadType number)
Stops count rest beyond left (Broken (BadColumn number column)) =
    IsFaulty left number (BadColumn number column)

-- the numbered blocks spell these records, one after another, and then the records end in this way
abbrev pub Gives : ℕ → List ℕ → ℕ → List (ℕ × List ℕ) → List (ℕ × Record) → Ending → Type 0
Gives count rest beyond left [] ending = Stops count rest beyond left ending
Gives count rest beyond [] (r ∷ records) ending = ⊥
Gives count rest beyond (block ∷ left) (r ∷ records) ending =
    (block.0 ≡ r.0) × Spells r.1 block.1 × Gives count rest beyond left records ending

-- the first of the numbered blocks spell these records
abbrev pub Begins : List (ℕ × List ℕ) → List (ℕ × Record) → Type 0
Begins left [] = Unit {0}
Begins [] (r ∷ records) = ⊥
Begins (block ∷ left) (r ∷ records) = (block.0 ≡ r.0) × Spells r.1 block.1 × Begins left records

-- The bytes are these blocks and this rest. No block extends past the limit.
abbrev pub AreBlocks : ℕ → List ℕ → List (List ℕ) → List ℕ → Type 0
AreBlocks limit bytes blocks rest = Frames (length bytes - limit) false bytes blocks rest

-- the bytes have exactly these records and then this ending
pub record AreGiven (limit : ℕ) (bytes : List ℕ) (records : List (ℕ × Record))
    (ending : Ending) : Type 0 where
  pub blocks : List (List ℕ)
  pub rest : List ℕ
  pub framed : AreBlocks limit bytes blocks rest
  pub given : Gives (length blocks) rest (length bytes - limit) (others 0 blocks) records ending

-- the first records of the bytes are these
pub record AreFirst (limit : ℕ) (bytes : List ℕ) (records : List (ℕ × Record)) : Type 0 where
  pub blocks : List (List ℕ)
  pub rest : List ℕ
  pub framed : AreBlocks limit bytes blocks rest
  pub begins : Begins (others 0 blocks) records

-- the outcome follows from all records of the bytes and from their ending
pub record IsOfAll (limit : ℕ) (bytes : List ℕ) (outcome : Outcome) : Type 0 where
  pub records : List (ℕ × Record)
  pub ending : Ending
  pub given : AreGiven limit bytes records ending
  pub is : outcome ≡ data_set ending records

-- the outcome follows from the first records of the bytes, whatever bytes come after them
pub record IsOfFirst (limit : ℕ) (bytes : List ℕ) (outcome : Outcome) : Type 0 where
  pub records : List (ℕ × Record)
  pub first : AreFirst limit bytes records
  pub is : (later : List (ℕ × Record)) (ending : Ending)
      → outcome ≡ data_set ending (records ++ later)

-- The records of the bytes are checked in order. The outcome is the base with its notes, or the
-- fault of the first invalid record. The bytes after that record make no difference.
abbrev pub IsReadAs : ℕ → List ℕ → Outcome → Type 0
IsReadAs limit bytes outcome = IsOfAll limit bytes outcome ⊎ IsOfFirst limit bytes outcome

-- the outcome follows from some valid records and from the way they end
pub record IsOfSome (outcome : Outcome) : Type 0 where
  pub records : List (ℕ × Record)
  pub ending : Ending
  pub valid : All (λ r. IsRecord r.1) records
  pub is : outcome ≡ data_set ending records

-- What bytes are read as. If the reader does not report its bytes, the outcome follows from
-- some records.
abbrev pub IsReadOf : ℕ → Option (List ℕ) → Outcome → Type 0
IsReadOf limit None outcome = IsOfSome outcome
IsReadOf limit (Some bytes) outcome = IsReadAs limit bytes outcome

-- ---- reading to the end

-- the outcome is what bytes within the limit are read as
abbrev pub IsWholeOf : ℕ → Option (List ℕ) → Outcome → Type 0
IsWholeOf limit known outcome =
    IsReadOf limit known outcome × IfSome known (λ bytes. length bytes ≤ limit)

-- ---- reading back what was written

-- the reader failed, which the bytes do not determine
abbrev pub FailedReader : Outcome → Type 0
FailedReader outcome = (number : ℕ) × (outcome ≡ Err (fault.Read (ReadFault number)))

-- Bytes within the limit that spell the records of a base, and nothing else, are read as this base
-- with its notes, unless the reader fails.
abbrev pub IsReadBack : Type 0
IsReadBack =
    (bytes : List ℕ) (count : ℕ) (records : List (ℕ × Record)) (base : List Record)
    (notes : List Note) (limit : ℕ) (outcome : Outcome)
    → AreRead bytes count records → data_set (Done (count + 1)) records ≡ Ok (base, notes)
    → length bytes ≤ limit → IsReadAs limit bytes outcome
    → (outcome ≡ Ok (base, notes)) ⊎ FailedReader outcome

-- ---- the same bytes

-- Equal bytes are read as the same base with the same notes, whatever the limits.
abbrev pub SameBytesSameBase : Type 0
SameBytesSameBase =
    (bytes : List ℕ) (limit other : ℕ) (base these : List Record) (notes noted : List Note)
    → IsReadAs limit bytes (Ok (base, notes)) → IsReadAs other bytes (Ok (these, noted))
    → (base ≡ these) × (notes ≡ noted)
