-- What a printer has printed, and what a call of it leaves.
use Rattle.std.specs.Prelude.{◌⊎◌, ℕ, Bool, false, List, Option}
use Rattle.ssim_records.specs.Device.{Writer}
use Rattle.ssim_base.specs.Sinks as sink

-- The bytes that were taken, if the contract knows them; how many calls failed, a count that wraps;
-- whether the latest call was a flush that did not fail; and the writer that the bytes go to.
pub record Paper : Type 0 where
  pub taken : Option (List ℕ)
  pub failures : ℕ
  pub flushed : Bool
  pub device : ℕ

-- a new printer over a writer that holds these bytes
abbrev pub new_paper : Option (List ℕ) → ℕ → Paper
new_paper contents device =
    record { taken = contents; failures = 0; flushed = false; device = device }

-- a printer as a sink
abbrev pub writer_of : Paper → Writer
writer_of p = record { taken = p.taken; failures = p.failures; device = p.device }

-- exactly these bytes were taken, and no call failed
abbrev pub Grows : List ℕ → Paper → Paper → Type 0
Grows bytes before after = sink.Grows bytes (writer_of before) (writer_of after)

-- a call failed, and a prefix of these bytes was taken
abbrev pub Breaks : List ℕ → Paper → Paper → Type 0
Breaks bytes before after = sink.Breaks bytes (writer_of before) (writer_of after)

-- all of the bytes were taken, or a call failed
abbrev pub PrintsOrFails : List ℕ → Paper → Paper → Type 0
PrintsOrFails bytes before after = Grows bytes before after ⊎ Breaks bytes before after
