-- What reading a data set returns, which record a refusal names, and which bytes came.
use Rattle.std.specs.Prelude.{◌≡◌, ◌⊎◌, ℕ, ◌+◌, ◌≤◌, ◌%◌, ◌^◌, Bool, true, false, IfSome}
use Rattle.std.specs.Prelude.{List, ◌++◌, length, Option, Some, None, Result, Ok, Err}
use Rattle.ssim_records.specs.Device.{Reader}
use Rattle.ssim_records.specs.Frames.{Frames, others}
use Rattle.ssim_records.specs.declared.fault.RecordFault.TheVariants.{Short, BadType, BadColumn}
use Rattle.ssim_records.specs.declared.fault.RecordFault.TheVariants.{ReadFault, ReaderNeverEnds}
use Rattle.ssim_records.specs.declared.record.Record.{Record}
use Rattle.ssim_base.specs.Base.{Outcome, IsAllowed}
use Rattle.ssim_base.specs.ReadBack.{EachSpells}
use Rattle.ssim_base.specs.declared.base.BaseRead.{BaseRead}
use Rattle.ssim_base.specs.declared.fault.BaseFault.{BaseFault}
use Rattle.ssim_base.specs.declared.fault.BaseFault.TheVariants as fault
use Rattle.ssim_base.specs.Reading.{IsReadOf, IsWholeOf}

-- the result of `Base::read` as an outcome has the property P; out of memory is no outcome
abbrev pub Returns : Result BaseRead BaseFault → (Outcome → Type 0) → Type 0
Returns (Ok read) P = P (Ok (read.base.records, read.notes.items))
Returns (Err fault.Memory) P = Unit {0}
Returns (Err refusal) P = P (Err refusal)

-- whether a fault is of the bytes: neither did memory run out, nor did the reader fail (13), nor
-- did more bytes come than the limit (14)
abbrev pub is_of_bytes : BaseFault → Bool
is_of_bytes fault.Memory = false
is_of_bytes (fault.Read (ReadFault number)) = false
is_of_bytes (fault.Read (ReaderNeverEnds number)) = false
is_of_bytes _ = true

-- the reader's failures are counted: one more if the fault is 13, else none
abbrev pub FailsAs : ℕ → ℕ → BaseFault → Type 0
FailsAs old new (fault.Read (ReadFault number)) = new ≡ (old + 1) % 2 ^ 64
FailsAs old new _ = new ≡ old

-- n bytes were fetched: n fewer are left or, if the bytes left are not known, the count is n more
abbrev pub HaveCome : Option (List ℕ) → Option (List ℕ) → ℕ → ℕ → ℕ → Type 0
HaveCome (Some left) (Some left') old new n = n + length left' ≡ length left
HaveCome None None old new n = new % 2 ^ 128 ≡ (old + n) % 2 ^ 128
HaveCome _ _ old new n = ⊥

-- n bytes came from a reader
abbrev pub Came : Reader → Reader → ℕ → Type 0
Came old new = HaveCome old.left new.left old.came new.came

-- if the fault is 14, one byte more came than the limit
abbrev pub NeverEnds : ℕ → (ℕ → Type 0) → BaseFault → Type 0
NeverEnds limit CameFrom (fault.Read (ReaderNeverEnds number)) = CameFrom (limit + 1)
NeverEnds limit CameFrom _ = Unit {0}

-- These are the complete records, fill included, of the bytes that came. All bytes but those that
-- the reader has left came.
abbrev pub AreComplete : List ℕ → Option (List ℕ) → List (List ℕ) → Type 0
AreComplete all None blocks = ⊥
AreComplete all (Some left) blocks =
    (came : List ℕ) × (rest : List ℕ) × (all ≡ came ++ left) × Frames 0 false came blocks rest

-- The record after the complete ones that came has this number. Nothing is said if the reader does
-- not report its bytes.
abbrev pub IsAfterComplete : Option (List ℕ) → Option (List ℕ) → ℕ → Type 0
IsAfterComplete all left number = IfSome all (λ bytes.
    (blocks : List (List ℕ)) × AreComplete bytes left blocks × (number ≡ length blocks + 1))

-- each of these blocks is fill, or spells a record that is allowed after the records before it
abbrev pub AreAllowed : List (List ℕ) → Type 0
AreAllowed blocks =
    (records : List (ℕ × Record)) × EachSpells (others 0 blocks) records
    × ((k : ℕ) → IsAllowed records k)

-- If the fault is 13, each complete record that came before the reader failed is allowed, and 13
-- names the record after them. Nothing is said if the reader does not report its bytes.
abbrev pub FailsAfter : Option (List ℕ) → Option (List ℕ) → BaseFault → Type 0
FailsAfter all left (fault.Read (ReadFault number)) = IfSome all (λ bytes.
    (blocks : List (List ℕ)) × AreComplete bytes left blocks × AreAllowed blocks
    × (number ≡ length blocks + 1))
FailsAfter all left _ = Unit {0}

-- What the fault of a reading record by record says: of the reader's failures, of the records that
-- came before a 13, and of the number of bytes that came before a 14.
pub record RefusesByRecord (limit : ℕ) (before after : Reader) (fault : BaseFault) : Type 0 where
  pub failure : FailsAs before.failures after.failures fault
  pub fails_after : FailsAfter before.left after.left fault
  pub never_ends : NeverEnds limit (Came before after) fault

-- ---- reading to the end

-- If the reader was read to its end, and the fault is of the bytes, the bytes are within the limit,
-- and the fault is what they are read as.
abbrev pub RefusesWhole : ℕ → Option (List ℕ) → BaseFault → Type 0
RefusesWhole limit known fault.Memory = Unit {0}
RefusesWhole limit known (fault.Read (ReadFault number)) = Unit {0}
RefusesWhole limit known (fault.Read (ReaderNeverEnds number)) = Unit {0}
RefusesWhole limit known refusal = IsWholeOf limit known (Err refusal)

-- The record after the invalid one has this number. An incomplete record is not counted: bytes that
-- come later belong to it.
abbrev pub IsRecordAfter : BaseFault → ℕ → Type 0
IsRecordAfter (fault.Read (Short n)) number = number ≡ n
IsRecordAfter (fault.Read (BadType n)) number = number ≡ n + 1
IsRecordAfter (fault.Read (BadColumn n column)) number = number ≡ n + 1
IsRecordAfter (fault.Refused n refusal) number = number ≡ n + 1
IsRecordAfter _ number = ⊥

-- The bytes have an invalid record, or lack one at their end. The record after it has this number.
abbrev pub IsAfterInvalid : ℕ → Option (List ℕ) → ℕ → Type 0
IsAfterInvalid limit known number =
    (invalid : BaseFault) × IsReadOf limit known (Err invalid) × IsRecordAfter invalid number

-- The first invalid record of the bytes is one of these blocks, and the record after it has this
-- number; or each of these blocks is allowed, and the record after them has this number.
abbrev pub IsNextRecord : ℕ → List ℕ → List (List ℕ) → ℕ → Type 0
IsNextRecord limit bytes blocks number =
    (IsAfterInvalid limit (Some bytes) number × (number ≤ length blocks + 1))
    ⊎ (AreAllowed blocks × (number ≡ length blocks + 1))

-- Which record a 13 or a 14 names. At 13 it is the record after the first invalid one of those that
-- came whole, or, if each of them is allowed, the record after them. At 14 the bytes within the
-- limit are read as one fault: as 14, which names this record, or as the fault of the first invalid
-- record, and then it is the record after this one. Nothing is said if the reader does not report
-- its bytes.
abbrev pub NamesNext : ℕ → Option (List ℕ) → Option (List ℕ) → BaseFault → Type 0
NamesNext limit all left (fault.Read (ReadFault n)) = IfSome all (λ bytes.
    (blocks : List (List ℕ)) × AreComplete bytes left blocks × IsNextRecord limit bytes blocks n)
NamesNext limit all left (fault.Read (ReaderNeverEnds n)) =
    (read : BaseFault) × IsReadOf limit all (Err read)
    × ((read ≡ fault.Read (ReaderNeverEnds n)) ⊎ IsRecordAfter read n)
NamesNext limit all left _ = Unit {0}

-- What the fault of a reading to the end says: of the bytes, of the reader's failures, of the
-- record that it names, and of the number of bytes that came.
pub record RefusesReading (limit : ℕ) (before after : Reader) (fault : BaseFault) : Type 0 where
  pub refused : RefusesWhole limit before.left fault
  pub failure : FailsAs before.failures after.failures fault
  pub names : NamesNext limit before.left after.left fault
  pub never_ends : NeverEnds limit (Came before after) fault
