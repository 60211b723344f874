-- Short completions of lines that some message's text begins with.
use Rattle.std.specs.Prelude.{◌≡◌, ℕ, ◌⊎◌}
use Rattle.std.specs.Prelude.{List, [], ◌∷◌, ◌++◌, codes, drop}
use Rattle.ssim_text.specs.declared.kind.Kind.{Kind}
use Rattle.ssim_text.specs.declared.kind.Kind.TheVariants.{Ssm, Asm}
use Rattle.ssim_text.specs.declared.kind.ActionIdentifier.{ActionIdentifier}
use Rattle.ssim_text.specs.declared.kind.ActionIdentifier.TheVariants as identifier
use Rattle.ssim_text.specs.Lines.{identifier_text}
use Rattle.ssim_text.specs.Message.{MessageValue}
use Rattle.ssim_text.specs.Grammar.{SpellsText}

-- the last lines of a shortest message with this action
abbrev pub needs : ActionIdentifier → List (List ℕ)
needs identifier.New = codes "J 320" ∷ codes "ZRH0000 LHR0000" ∷ []
needs identifier.Cnl = []
needs identifier.Rpl = codes "J 320" ∷ codes "ZRH0000 LHR0000" ∷ []
needs identifier.Eqt = codes "J 320" ∷ []
needs identifier.Tim = codes "ZRH0000 LHR0000" ∷ []

-- the shortest text of this kind with this action
abbrev pub shortest : Kind → ActionIdentifier → List (List ℕ)
shortest Ssm a =
    codes "SSM" ∷ codes "UTC" ∷ codes "01JAN00001E001" ∷ identifier_text a ∷ codes "LX1"
    ∷ codes "01JAN25 01JAN25 1" ∷ needs a
shortest Asm a =
    codes "ASM" ∷ codes "UTC" ∷ codes "01JAN00001E001" ∷ identifier_text a ∷ codes "LX1/01JAN25"
    ∷ needs a

-- a line of free text, or the last lines of a shortest message
abbrev pub IsCompletion : List (List ℕ) → Type 0
IsCompletion c = (c ≡ codes "SI" ∷ [])
    ⊎ ((n : ℕ) × (kind : Kind) × (a : ActionIdentifier) × (c ≡ drop n (shortest kind a)))

-- the lines and one of these completions are a message's text
pub record IsCompletedShortly (lines : List (List ℕ)) : Type 0 where
  pub completion : List (List ℕ)
  pub is_completion : IsCompletion completion
  pub message : MessageValue
  pub spelled : SpellsText message (lines ++ completion)
