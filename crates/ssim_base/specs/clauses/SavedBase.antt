-- What reading the records of a base again returns if it is refused.
use Rattle.std.specs.Prelude.{◌≡◌, ℕ, ◌-◌, List, ◌++◌, length, Option, None, Some}
use Rattle.ssim_records.specs.Device.{Reader}
use Rattle.ssim_records.specs.clauses.InputBuffer.{Gives, Input, Stops}
use Rattle.ssim_records.specs.declared.record.Record.{Record}
use Rattle.ssim_base.specs.declared.data_set.saved_lines.SavedFault.{SavedFault}
use Rattle.ssim_base.specs.declared.data_set.saved_lines.SavedFault.TheVariants as fault
use Rattle.ssim_base.specs.SavedBase.{IsBaseRecords, saved}

-- If the bytes are known, they do not begin with the lines of this many records of a base.
abbrev pub BeginsNoBase : ℕ → Option (List ℕ) → Type 0
BeginsNoBase count None = Unit {0}
BeginsNoBase count (Some bytes) =
    (records : List Record) (later : List ℕ) → IsBaseRecords records → length records ≡ count
    → bytes ≡ saved records ++ later → ⊥

-- why bytes are not read as the lines of this many records: there are none, the reader stopped, or
-- out of memory
abbrev pub RefusesLines : ℕ → Option (List ℕ) → SavedFault → Type 0
RefusesLines count bytes (fault.Invalid offset) = BeginsNoBase count bytes
RefusesLines count bytes _ = Unit {0}

-- an invalid line comes after the bytes that were used
abbrev pub IsAfterUsed : Input → SavedFault → Type 0
IsAfterUsed input (fault.Invalid offset) = offset ≡ input.came - length input.held
IsAfterUsed input _ = Unit {0}

-- The reader stopped if the fault says so. Else it did not fail, and at an invalid line it gave the
-- bytes that came.
abbrev pub StopsSaved : ℕ → Reader → Reader → ℕ → ℕ → SavedFault → Type 0
StopsSaved limit old new came came' fault.Memory = new.failures ≡ old.failures
StopsSaved limit old new came came' (fault.Read stop) = Stops limit old new came stop
StopsSaved limit old new came came' (fault.Invalid offset) = Gives old new came came'
