-- The texts from which headings are read: each cancels one flight.
use Rattle.std.specs.Prelude.{◌≡◌, ◌⊎◌, ℕ, false, true, List, [], ◌∷◌, ◌++◌, codes}
use Rattle.ssim_values.specs.Designator.{designator_text}
use Rattle.ssim_values.specs.declared.designator.Designator.{Designator}
use Rattle.ssim_values.specs.declared.time_mode.TimeMode.{TimeMode}
use Rattle.ssim_text.specs.Lines.{mode_text}
use Rattle.ssim_text.specs.Message.{MessageValue}
use Rattle.ssim_text.specs.Spelling.{SpellsMessage}
use Rattle.ssim_text.specs.declared.action.Action.TheVariants.{Cnl}
use Rattle.ssim_text.specs.declared.action.Sub.{Sub}
use Rattle.ssim_text.specs.declared.kind.Kind.TheVariants.{Ssm}
use Rattle.ssim_text.specs.declared.reference.GivenReference.{GivenReference}
use Rattle.ssim_outbox.specs.DatedSub.{dated}
use Rattle.ssim_outbox.specs.Heading.{NamesHeading}
use Rattle.ssim_outbox.specs.declared.fault.OutboxFault.{OutboxFault}
use Rattle.ssim_outbox.specs.declared.fault.OutboxFault.TheVariants as fault

-- flight 1 of an airline
abbrev pub first_flight : List ℕ → Designator
first_flight airline = record { airline = airline; flight = record { number = 1; suffix = 32 } }

-- it is cancelled on 01JUL25, the one Tuesday of a week
abbrev pub cancellation : List ℕ → Sub
cancellation airline =
    dated (first_flight airline)
    (record {
      first = 9313;
      last = 9319;
      days = false ∷ true ∷ false ∷ false ∷ false ∷ false ∷ false ∷ [];
    })
    Cnl

-- the message with this heading that has the one sub-message
abbrev pub cancelling : List ℕ → TimeMode → GivenReference → List ℕ → MessageValue
cancelling originator mode reference airline = record {
  originator = originator;
  kind = Ssm;
  mode = mode;
  reference = reference;
  subs = cancellation airline ∷ [];
  free = [];
}

-- the lines of a text of it after the originator's line, with this reference line
abbrev pub cancelling_lines : TimeMode → List ℕ → List ℕ → List (List ℕ)
cancelling_lines mode airline line =
    codes "SSM"
    ∷ mode_text mode
    ∷ line
    ∷ codes "CNL"
    ∷ designator_text (first_flight airline)
    ∷ codes "01JUL25 07JUL25 2"
    ∷ []

-- a text with further lines
abbrev pub added_lines : List ℕ → List (List ℕ) → List ℕ
added_lines text [] = text
added_lines text (line ∷ lines) = added_lines (text ++ (line ++ 10 ∷ [])) lines

-- why no message is read from a text: memory ran out, or the text spells none
abbrev pub RefusesText : List ℕ → OutboxFault → Type 0
RefusesText text refusal =
    (refusal ≡ fault.Memory)
    ⊎ ((refusal ≡ fault.Reference) × ((m : MessageValue) → SpellsMessage m text → ⊥))

-- why no heading is read from a word: memory ran out, or the word names none
abbrev pub RefusesWord : TimeMode → List ℕ → OutboxFault → Type 0
RefusesWord mode word refusal =
    (refusal ≡ fault.Memory)
    ⊎ ((refusal ≡ fault.Reference) × ((m : MessageValue) → NamesHeading mode word m → ⊥))
