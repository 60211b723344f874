-- Which bytes spell a message, and what holds of its written form.
use Rattle.std.specs.Prelude.{◌≡◌, ◌↔◌, ℕ, ◌≤◌, None, List, length}
use Rattle.ssim_text.specs.Message.{MessageValue}
use Rattle.ssim_text.specs.Grammar.{SpellsText}
use Rattle.ssim_text.specs.Left.{lines_left, texts, first_unprintable}
use Rattle.ssim_text.specs.Canonical.{canonical}

-- the bytes of a text spell the message
pub record SpellsMessage (m : MessageValue) (text : List ℕ) : Type 0 where
  pub short : length text ≤ 65536
  pub printable : first_unprintable (lines_left text) ≡ None
  pub spelled : SpellsText m (texts (lines_left text))
  pub canonical_short : length (canonical m) ≤ 65536

-- If some text spells a message, the canonical text of the message spells it.
abbrev pub CanonicalReadsBack : Type 0
CanonicalReadsBack =
    (m : MessageValue) (text : List ℕ) → SpellsMessage m text → SpellsMessage m (canonical m)

-- Two texts spell equal messages exactly if the canonical texts of the messages are equal.
abbrev pub EqualWhereWrittenEqual : Type 0
EqualWhereWrittenEqual = (a b : MessageValue) (s t : List ℕ) → SpellsMessage a s → SpellsMessage b t
    → (a ≡ b) ↔ (canonical a ≡ canonical b)
