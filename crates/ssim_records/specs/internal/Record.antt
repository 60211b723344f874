-- The faults of records whatever their numbers.
use Rattle.std.specs.Prelude.{◌≡◌, ℕ, List, Some}
use Rattle.ssim_records.specs.declared.fault.RecordFault.TheVariants.{BadType, BadColumn}
use Rattle.ssim_records.specs.Record.{fault_of}

-- the type of 200 bytes is unknown
abbrev pub HasBadType : List ℕ → Type 0
HasBadType bytes = (number : ℕ) → fault_of number bytes ≡ Some (BadType number)

-- this is the first column of the first invalid field of 200 bytes
abbrev pub HasBadColumn : List ℕ → ℕ → Type 0
HasBadColumn bytes column =
    (number : ℕ) → fault_of number bytes ≡ Some (BadColumn number column)
