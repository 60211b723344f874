-- What a sink takes of the bytes that are put to it, directly or through a buffer.
use Rattle.std.specs.Prelude.{◌≡◌, ℕ, ◌+◌, ◌%◌, ◌^◌, List, ◌++◌, Option}
use Rattle.std.specs.Io.KnownBytes.{Appends}
use Rattle.ssim_records.specs.Device.{Writer}

-- the sink took a prefix of these bytes, up to the rest
abbrev pub TakesUpTo : List ℕ → List ℕ → Option (List ℕ) → Option (List ℕ) → Type 0
TakesUpTo bytes rest old new = (front : List ℕ) × (bytes ≡ front ++ rest) × Appends old new front

-- the sink took some prefix of these bytes
abbrev pub TakesPrefix : List ℕ → Option (List ℕ) → Option (List ℕ) → Type 0
TakesPrefix bytes old new = (rest : List ℕ) × TakesUpTo bytes rest old new

-- the sink took exactly these bytes, and no put failed
pub record Grows (bytes : List ℕ) (before after : Writer) : Type 0 where
  pub taken : Appends before.taken after.taken bytes
  pub failures : after.failures ≡ before.failures
  pub device : after.device ≡ before.device

-- a put failed, which is counted, and the sink took some prefix of these bytes
pub record Breaks (bytes : List ℕ) (before after : Writer) : Type 0 where
  pub taken : TakesPrefix bytes before.taken after.taken
  pub failures : after.failures ≡ (before.failures + 1) % 2 ^ 64
  pub device : after.device ≡ before.device
