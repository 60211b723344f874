-- What opening a desk file returns.
use Rattle.std.specs.Prelude.{◌≡◌, ℕ, ◌+◌, ◌%◌, ◌^◌, ◌≤◌, List, length, Option, Some, None}
use Rattle.ssim_records.specs.declared.fault.RecordFault.TheVariants.{ReadFault, ReaderNeverEnds}
use Rattle.ssim_records.specs.Device.{Reader}
use Rattle.ssim_base.specs.BaseSeen.{BaseSeen}
use Rattle.ssim_base.specs.clauses.Reading.{Came}
use Rattle.ssim_held.specs.File.{IsDeskFile}
use Rattle.ssim_held.specs.Entries.{Entry}
use Rattle.ssim_held.specs.declared.fault.DeskFault.{DeskFault}
use Rattle.ssim_held.specs.declared.fault.DeskFault.TheVariants as desk_fault

-- ---- opening

-- a failure of the reader is counted if the fault is 13, and the count wraps; the only other faults
-- are 14, 62 and out of memory
abbrev pub FailsAs : ℕ → ℕ → DeskFault → Type 0
FailsAs old new (desk_fault.Read (ReadFault n)) = (n ≡ 0) × (new ≡ (old + 1) % 2 ^ 64)
FailsAs old new (desk_fault.Read (ReaderNeverEnds n)) = (n ≡ 0) × (new ≡ old)
FailsAs old new (desk_fault.File offset) = new ≡ old
FailsAs old new desk_fault.Memory = new ≡ old
FailsAs _ _ _ = ⊥

-- one byte more than the limit came if the fault is 14
abbrev pub NeverEnds : ℕ → (ℕ → Type 0) → DeskFault → Type 0
NeverEnds limit CameFrom (desk_fault.Read (ReaderNeverEnds n)) = CameFrom (limit + 1)
NeverEnds _ _ _ = Unit {0}

-- the bytes that a reader has left, no more than the limit, are the file of the base and the
-- messages
abbrev pub Opens : ℕ → Option (List ℕ) → BaseSeen → List Entry → Type 0
Opens limit None base entries =
    (bytes : List ℕ) × (length bytes ≤ limit) × IsDeskFile bytes base entries
Opens limit (Some bytes) base entries = (length bytes ≤ limit) × IsDeskFile bytes base entries

-- the bytes, no more than the limit, are the file of no base and no messages
abbrev pub OpensNone : ℕ → Option (List ℕ) → Type 0
OpensNone limit None = Unit {0}
OpensNone limit (Some bytes) =
    (length bytes ≤ limit)
    × ((base : BaseSeen) (entries : List Entry) → IsDeskFile bytes base entries → ⊥)

-- why no desk is opened: 62 for the bytes; else 13, 14 or out of memory
abbrev pub RefusesFile : ℕ → Option (List ℕ) → DeskFault → Type 0
RefusesFile limit left desk_fault.Memory = Unit {0}
RefusesFile limit left (desk_fault.Read fault) = Unit {0}
RefusesFile limit left (desk_fault.File offset) = OpensNone limit left
RefusesFile _ _ _ = ⊥

-- why no desk is opened by a reader, and what the reader has left
pub record RefusesOpening (limit : ℕ) (before after : Reader) (fault : DeskFault) : Type 0 where
  pub file : RefusesFile limit before.left fault
  pub failure : FailsAs before.failures after.failures fault
  pub never_ends : NeverEnds limit (Came before after) fault
