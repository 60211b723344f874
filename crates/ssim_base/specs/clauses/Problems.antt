-- Why the problems of a data set are not read, and which record a refusal names.
use Rattle.std.specs.Prelude.{◌≡◌, ℕ, ◌+◌, false, List, length, Option, Some, None}
use Rattle.ssim_records.specs.Device.{Reader}
use Rattle.ssim_records.specs.declared.fault.RecordFault.TheVariants.{ReadFault, ReaderNeverEnds}
use Rattle.ssim_base.specs.declared.fault.BaseFault.{BaseFault}
use Rattle.ssim_base.specs.Reading.{AreBlocks}
use Rattle.ssim_base.specs.clauses.Reading.{Came, FailsAs, IsAfterComplete, NeverEnds, is_of_bytes}
use Rattle.ssim_base.specs.declared.fault.BaseFault.TheVariants as fault

-- ---- the whole

-- The record after the complete ones within the limit has this number, if the bytes are known.
abbrev pub IsAfterLimit : ℕ → Option (List ℕ) → ℕ → Type 0
IsAfterLimit limit None number = Unit {0}
IsAfterLimit limit (Some bytes) number =
    (blocks : List (List ℕ)) × (rest : List ℕ) × AreBlocks limit bytes blocks rest
    × (number ≡ length blocks + 1)

-- Which record a 13 or a 14 names if invalid records are read, too: at 13 the record after the
-- complete ones that came, at 14 the one after the complete ones within the limit.
abbrev pub NamesLast : ℕ → Option (List ℕ) → Option (List ℕ) → BaseFault → Type 0
NamesLast limit all left (fault.Read (ReadFault n)) = IsAfterComplete all left n
NamesLast limit all left (fault.Read (ReaderNeverEnds n)) = IsAfterLimit limit all n
NamesLast limit all left _ = Unit {0}

-- Why the problems of a data set are not read, and what the reader has left: the reader failed, more
-- bytes came than the limit, or memory ran out.
pub record RefusesProblems (limit : ℕ) (before after : Reader) (fault : BaseFault) : Type 0 where
  pub is_of_device : is_of_bytes fault ≡ false
  pub failure : FailsAs before.failures after.failures fault
  pub names : NamesLast limit before.left after.left fault
  pub never_ends : NeverEnds limit (Came before after) fault
