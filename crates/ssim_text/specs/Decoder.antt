-- What decoding returns.
use Rattle.std.specs.Prelude.{◌≡◌, ℕ, ◌<◌, ◌≤◌, ◌⊎◌, Some, None, List, length, take, drop}
use Rattle.ssim_text.specs.declared.fault.Fault.{Fault}
use Rattle.ssim_text.specs.declared.fault.Fault.TheVariants as fault
use Rattle.ssim_text.specs.declared.fault.TextFault.{TextFault}
use Rattle.ssim_text.specs.declared.fault.TextFault.TheVariants as refusal
use Rattle.ssim_text.specs.declared.decoder_state.State.{State}
use Rattle.ssim_text.specs.Message.{MessageValue}
use Rattle.ssim_text.specs.Grammar.{SpellsText, NamesPlace}
use Rattle.ssim_text.specs.Machine.{Reads, fault_before}
use Rattle.ssim_text.specs.Left.{lines_left, texts, numbers, place_number, first_unprintable}
use Rattle.ssim_text.specs.Canonical.{canonical}
use Rattle.ssim_text.specs.Spelling.{SpellsMessage}

-- The lines before the index lead to a state. The fault is the fault of the next line in that
-- state, or of the end if no line is left.
pub record IsFaultAt (lines : List (List ℕ)) (index : ℕ) (f : Fault) : Type 0 where
  pub state : State
  pub reads : Reads state (take index lines)
  pub fault : f ≡ fault_before state (drop index lines)

-- check 1: the text is too long
pub record IsTooLong (text : List ℕ) (f : Fault) (n : ℕ) : Type 0 where
  pub long : 65536 < length text
  pub fault : f ≡ fault.TooMany
  pub line : n ≡ 1

-- the text is not too long, and each byte of its lines is from 32 to 126
pub record IsReadable (text : List ℕ) : Type 0 where
  pub short : length text ≤ 65536
  pub printable : first_unprintable (lines_left text) ≡ None

-- check 2: a line has a byte outside 32 to 126; this is the first such line
pub record IsNotAscii (text : List ℕ) (f : Fault) (n : ℕ) : Type 0 where
  pub short : length text ≤ 65536
  pub fault : f ≡ fault.NotAscii
  pub line : first_unprintable (lines_left text) ≡ Some n

-- check 3: a line is not valid at its place, or the text ends too early
pub record IsMisplaced (text : List ℕ) (f : Fault) (n : ℕ) : Type 0 where
  pub readable : IsReadable text
  pub index : ℕ
  pub names : NamesPlace (texts (lines_left text)) index
  pub fault : IsFaultAt (texts (lines_left text)) index f
  pub line : n ≡ place_number (numbers (lines_left text)) index

-- check 4: the lines spell a message whose canonical text is too long
pub record IsWrittenTooLong (text : List ℕ) (f : Fault) (n : ℕ) : Type 0 where
  pub readable : IsReadable text
  pub message : MessageValue
  pub spelled : SpellsText message (texts (lines_left text))
  pub long : 65536 < length (canonical message)
  pub fault : f ≡ fault.TooMany
  pub line : n ≡ 1

-- the fault of a text and its line: the fault of the first check that fails
abbrev pub IsRefusal : List ℕ → TextFault → Type 0
IsRefusal text refusal.Memory = Unit {0}
IsRefusal text (refusal.Refused f n) =
    IsTooLong text f n ⊎ IsNotAscii text f n ⊎ IsMisplaced text f n ⊎ IsWrittenTooLong text f n

-- A text has at most one fault, at one line.
abbrev pub OneRefusal : Type 0
OneRefusal = (text : List ℕ) (f g : Fault) (m n : ℕ) → IsRefusal text (refusal.Refused f m)
    → IsRefusal text (refusal.Refused g n) → (f ≡ g) × (m ≡ n)

-- a text that is refused for another reason than memory spells no message
abbrev pub NoMessage : List ℕ → TextFault → Type 0
NoMessage text refusal.Memory = Unit {0}
NoMessage text (refusal.Refused f n) = (m : MessageValue) → SpellsMessage m text → ⊥
