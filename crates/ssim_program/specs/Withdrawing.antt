-- What `withdraw` makes of a desk and prints, and which words it refuses.
use Rattle.std.specs.Prelude.{◌≡◌, ◌⊎◌, ℕ, Bool, true, false, List, [], ◌∷◌, ◌++◌, Some, slice_get, Ok, Err}
use Rattle.std.specs.FinMap.{contains_key, remove}
use Rattle.ssim_base.specs.Export.{line}
use Rattle.ssim_text.specs.Reference.{SpellsReference}
use Rattle.ssim_text.specs.declared.reference.Reference.{Reference}
use Rattle.ssim_held.specs.Entries.{DeskSeen, map_of}
use Rattle.ssim_held.specs.Held.{HeldMessages}
use Rattle.ssim_command_line.specs.Line.{Text}
use Rattle.ssim_program.specs.Answer.{Answer}
use Rattle.ssim_program.specs.print.PrintedLine.{printed_text}
use Rattle.ssim_program.specs.print.Refusal.{IsMemory}
use Rattle.ssim_program.specs.declared.print.printed_line.PrintedLine.{PrintedLine}
use Rattle.ssim_program.specs.declared.print.printed_line.PrintedLine.TheVariants as printed
use Rattle.ssim_program.specs.declared.refusal.Refusal.{Refusal}
use Rattle.ssim_program.specs.declared.refusal.Refusal.TheVariants as refused

-- what is printed of a reference: its message was held and is withdrawn, or it was not held
abbrev pub withdrawn_printed : Bool → Reference → PrintedLine
withdrawn_printed true reference = printed.Withdrawn reference
withdrawn_printed false reference = printed.NotHeld reference

-- the line that `withdraw` prints for one reference
abbrev pub withdrawn_line : Bool → Reference → List ℕ
withdrawn_line was_held reference = line (printed_text (withdrawn_printed was_held reference))

-- Each word spells a reference. Its message is withdrawn from those that are held, one word after
-- another, and each word has a line. So a word that comes twice has a message only the first time.
abbrev pub Withdraws : List Text → HeldMessages → HeldMessages → List ℕ → Type 0
Withdraws [] before after printed = (after ≡ before) × (printed ≡ [])
Withdraws (word ∷ words) before after printed =
    (reference : Reference) × SpellsReference reference word × (later : List ℕ)
    × Withdraws words (remove before reference) after later
    × (printed ≡ withdrawn_line (contains_key before reference) reference ++ later)

-- the desk holds what it held without the messages that are withdrawn, and their lines are printed
pub record WithdrawsFrom (words : List Text) (before after : DeskSeen)
    (printed : List ℕ) : Type 0 where
  pub withdraws : Withdraws words (map_of before.held) (map_of after.held) printed
  pub base : after.base ≡ before.base

-- one of the words spells no reference
abbrev pub HasNoReference : List Text → Type 0
HasNoReference words = (n : ℕ) × (word : Text) × (slice_get words n ≡ Some word)
    × ((reference : Reference) → SpellsReference reference word → ⊥)

-- why no messages are withdrawn: memory ran out; or one of the words spells no reference (21)
abbrev pub RefusesReferences : List Text → Refusal → Type 0
RefusesReferences words refusal =
    IsMemory refusal ⊎ ((refusal ≡ refused.Reference) × HasNoReference words)

-- the messages of these references are withdrawn: the desk afterwards, and the lines
abbrev pub withdrawn : List Text → DeskSeen → Answer (DeskSeen × List ℕ)
withdrawn words desk (Ok left) = WithdrawsFrom words desk left.0 left.1
withdrawn words desk (Err why) = RefusesReferences words why

-- one of the words spells the reference
abbrev pub IsNamed : List Text → Reference → Type 0
IsNamed [] reference = ⊥
IsNamed (word ∷ words) reference = SpellsReference reference word ⊎ IsNamed words reference
