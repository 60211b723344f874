-- A message that resolves is not refused, and a message is refused in one way: a base and a message
-- have one outcome.
use Rattle.std.proofs.Common.{◌≡◌, List, Ok, Err, refl}
use Rattle.ssim_records.specs.declared.record.Record.{Record}
use Rattle.ssim_base.specs.Resolve.{HasOneOutcome, IsOutcome, IsRefusedIn, ResolvesIn}
use Rattle.ssim_base.specs.declared.resolution.ResolveFault.{ResolveFault}
use Rattle.ssim_base.specs.declared.resolution.ResolveFault.TheVariants.{Memory, TimeMode, Airline, NoSuchDate, Period}
use Rattle.ssim_base.specs.declared.resolution.ResolvedText.{ResolvedText}
use Rattle.ssim_text.specs.Message.{MessageValue}

-- a refusal that is not for memory is an outcome
outcome_of : (base : List Record) (m : MessageValue) (fault : ResolveFault) → IsRefusedIn base m fault → (fault ≡ Memory → ⊥) → IsOutcome base m (Err fault)
outcome_of base m Memory refused other = other refl
outcome_of base m TimeMode refused other = refused
outcome_of base m (Airline number) refused other = refused
outcome_of base m (NoSuchDate number) refused other = refused
outcome_of base m (Period number) refused other = refused

-- a message that resolves against a base is not refused there, but for memory
pub resolves_or_not : HasOneOutcome → (base : List Record) (m : MessageValue) (text : ResolvedText) (fault : ResolveFault) → ResolvesIn base m text → IsRefusedIn base m fault → (fault ≡ Memory → ⊥) → ⊥
resolves_or_not one base m text fault is refused other = one base m (Ok text) (Err fault) is (outcome_of base m fault refused other)

-- two refusals of a message are equal
pub one_refusal : HasOneOutcome → (base : List Record) (m : MessageValue) (f g : ResolveFault) → IsRefusedIn base m f → (f ≡ Memory → ⊥) → IsRefusedIn base m g → (g ≡ Memory → ⊥) → f ≡ g
one_refusal one base m f g is_f other_f is_g other_g = one base m (Err f) (Err g) (outcome_of base m f is_f other_f) (outcome_of base m g is_g other_g)
