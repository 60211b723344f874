-- Bytes that came from a source and are not used yet.
use Rattle.std.specs.Prelude.{ℕ, ◌≡◌, ◌+◌, ◌%◌, ◌^◌, List, ◌++◌, length, Option, Some, None}
use Rattle.std.specs.Io.KnownBytes.{Consumes}
use Rattle.ssim_records.specs.clauses.Blocks.{BytesCame}
use Rattle.ssim_records.specs.Device.{Reader}
use Rattle.ssim_records.specs.declared.input_buffer.InputFault.{InputFault}
use Rattle.ssim_records.specs.declared.input_buffer.InputFault.TheVariants.{ReadFault, ReaderNeverEnds}

-- the state of an input: the most bytes that may come, how many came, and those that are not used
pub record Input : Type 0 where
  pub limit : ℕ
  pub came : ℕ
  pub held : List ℕ

-- the bytes that come next, if the reader reports its bytes: those held, and then those left
abbrev pub ahead : Input → Option (List ℕ) → Option (List ℕ)
ahead input None = None
ahead input (Some left) = Some (input.held ++ left)

-- These bytes were used. They are the first of the bytes that came next, and each byte that came is
-- used or held.
pub record Uses (used : List ℕ) (old : Input) (left : Option (List ℕ)) (new : Input)
    (left' : Option (List ℕ)) : Type 0 where
  pub next : Consumes (ahead old left) (ahead new left') used
  pub counted : new.came + length old.held ≡ old.came + length used + length new.held

-- The reader did not fail, and the number of bytes that came went from one to the other.
pub record Gives (old new : Reader) (came came' : ℕ) : Type 0 where
  pub bytes : BytesCame old new came came'
  pub no_failure : new.failures ≡ old.failures

-- The reader failed, which is counted, and the count wraps; or one byte more came than the limit.
abbrev pub Stops : ℕ → Reader → Reader → ℕ → InputFault → Type 0
Stops limit old new came ReadFault = new.failures ≡ (old.failures + 1) % 2 ^ 64
Stops limit old new came ReaderNeverEnds = Gives old new came (limit + 1)
