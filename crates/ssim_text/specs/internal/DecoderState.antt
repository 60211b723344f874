-- What reading one more line comes to, or the end of the text.
use Rattle.std.specs.Prelude.{◌≡◌, ℕ, if◌then◌else◌, Option, Some, None, List}
use Rattle.ssim_text.specs.declared.decoder_state.State.{State}
use Rattle.ssim_text.specs.declared.decoder_state.State.TheVariants.{AtLegs, AtEnd, AtFree}
use Rattle.ssim_text.specs.declared.decoder_state.Stop.{Stop}
use Rattle.ssim_text.specs.declared.decoder_state.Stop.TheVariants.{OutOfMemory, Refused}
use Rattle.ssim_text.specs.Message.{MessageValue}
use Rattle.ssim_text.specs.Grammar.{Part, Spells}
use Rattle.ssim_text.specs.Machine.{is_whole, with_body, step, fault_at, fault_of}

-- a line leads from one state to the next
pub record Takes (s : State) (line : List ℕ) (next : State) : Type 0 where
  pub part : Part
  pub spelled : Spells part line
  pub step : step s part ≡ Some next

-- the line spells no part that is allowed in this state
abbrev pub Refuses : State → List ℕ → Type 0
Refuses s line = (part : Part) → Spells part line → step s part ≡ None

-- reading stops at this line: memory ran out, or the line spells no part that is allowed in this
-- state
abbrev pub StopsAt : State → List ℕ → Stop → Type 0
StopsAt s line OutOfMemory = Unit {0}
StopsAt s line (Refused f) = Refuses s line × (f ≡ fault_of s line)

-- the message of a text that ends in this state, if it may end here
abbrev pub finish : State → Option MessageValue
finish (AtLegs m b) = if is_whole b then Some (with_body m b) else None
finish (AtEnd m) = Some m
finish (AtFree m) = Some m
finish s = None

-- the text may end in this state, and spells this message
abbrev pub Finishes : State → MessageValue → Type 0
Finishes s m = finish s ≡ Some m

-- why a text that ends in this state has no message; out of memory says nothing of the text
abbrev pub EndsShort : State → Stop → Type 0
EndsShort s OutOfMemory = Unit {0}
EndsShort s (Refused f) = (finish s ≡ None) × (f ≡ fault_at s)
