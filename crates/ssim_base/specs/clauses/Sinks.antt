-- What a call leaves that puts bytes to a sink.
use Rattle.std.specs.Prelude.{◌≡◌, ℕ, List, Result, Ok, Err}
use Rattle.ssim_records.specs.Device.{Writer}
use Rattle.ssim_base.specs.Sinks.{TakesUpTo, Grows, Breaks}

-- the sink took these bytes up to the rest, and no put failed
pub record GrowsUpTo (bytes rest : List ℕ) (before after : Writer) : Type 0 where
  pub taken : TakesUpTo bytes rest before.taken after.taken
  pub failures : after.failures ≡ before.failures
  pub device : after.device ≡ before.device

-- the bytes are put to a sink: it takes all of them, or a put fails
abbrev pub Puts : {A E : Type 0} → List ℕ → Writer → Writer → Result A E → Type 0
Puts bytes before after (Ok _) = Grows bytes before after
Puts bytes before after (Err _) = Breaks bytes before after

-- The bytes are put to a sink through a buffer, and `held` is what the buffer holds afterwards. The
-- sink takes the bytes up to these, or a put fails.
abbrev pub PutsUpTo : {A E : Type 0} → List ℕ → List ℕ → Writer → Writer → Result A E → Type 0
PutsUpTo bytes held before after (Ok _) = GrowsUpTo bytes held before after
PutsUpTo bytes held before after (Err _) = Breaks bytes before after
