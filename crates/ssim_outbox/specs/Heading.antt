-- The heading of the texts, as a word names it.
use Rattle.std.specs.Prelude.{◌≡◌, ◌⊎◌, ℕ, Some, List, ◌∷◌, ◌++◌}
use Rattle.ssim_values.specs.declared.time_mode.TimeMode.{TimeMode}
use Rattle.ssim_text.specs.Lines.{address_of, reference_of}
use Rattle.ssim_text.specs.Message.{MessageValue}
use Rattle.ssim_text.specs.Values.{no_originator}
use Rattle.ssim_text.specs.declared.kind.Kind.TheVariants.{Ssm}
use Rattle.ssim_text.specs.declared.reference.GivenReference.{GivenReference}
use Rattle.ssim_text.specs.Left.{IsTextLine}

-- a line that a text can have is the reference line of this reference: 01JUN00001E001
pub record IsReferenceLine (line : List ℕ) (reference : GivenReference) : Type 0 where
  pub is_line : IsTextLine line
  pub reads : reference_of line ≡ Some reference

-- the word is a reference line alone, and the texts have no originator
pub record IsPlainWord (word originator : List ℕ) (reference : GivenReference) : Type 0 where
  pub none : originator ≡ no_originator
  pub line : IsReferenceLine word reference

-- the word is a dot, the seven letters or digits of an originator, a solidus, and a reference line:
-- .ZRHRMLX/01JUN00001E001
pub record IsOriginatedWord (word originator : List ℕ) (reference : GivenReference) : Type 0 where
  pub address : address_of originator ≡ Some originator
  pub reference_line : List ℕ
  pub line : IsReferenceLine reference_line reference
  pub word_is : word ≡ 46 ∷ originator ++ 47 ∷ reference_line

-- The word names the heading of a message: an SSM in this time mode, with the originator and the
-- reference of the word. The sub-messages are left open.
pub record NamesHeading (mode : TimeMode) (word : List ℕ) (heading : MessageValue) : Type 0 where
  pub kind : heading.kind ≡ Ssm
  pub mode_is : heading.mode ≡ mode
  pub word_is : IsPlainWord word heading.originator heading.reference
      ⊎ IsOriginatedWord word heading.originator heading.reference
