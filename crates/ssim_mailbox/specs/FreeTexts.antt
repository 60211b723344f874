-- Where the free text of a text begins and ends.
use Rattle.std.specs.Prelude.{ℕ, Bool, false, ◌==◌, if◌then◌else◌, List, [], ◌∷◌, length, take}
use Rattle.std.specs.Prelude.{codes}
use Rattle.std.specs.List.{flat_map, onto_first}
use Rattle.std.specs.Str.{bytes_eq}
use Rattle.ssim_mailbox.specs.declared.free_text.FreeText.{FreeText}
use Rattle.ssim_mailbox.specs.declared.free_text.FreeText.TheVariants.{Ahead, Divided, Begun}
use Rattle.ssim_mailbox.specs.Lines.{MailLine}

-- the line that divides sub-messages, and the last of them from the free text
abbrev pub is_divider : List ℕ → Bool
is_divider line = bytes_eq line (codes "//")

-- whether a line begins with SI
abbrev pub begins_free : List ℕ → Bool
begins_free line = bytes_eq (take 2 line) (codes "SI")

-- what a line says of the free text that does not begin with it
abbrev pub ahead_of : List ℕ → FreeText
ahead_of line = if is_divider line then Divided else Ahead

-- The free text after one more line. It begins with a line that begins with SI, if the last line
-- above it that is not empty is `//`.
abbrev pub free_after : FreeText → List ℕ → FreeText
free_after Ahead line = ahead_of line
free_after Divided [] = Divided
free_after Divided (b ∷ rest) = if begins_free (b ∷ rest) then Begun else ahead_of (b ∷ rest)
free_after Begun line = Begun

-- whether a line ends the text: an empty line in the free text
abbrev pub ends_text : FreeText → List ℕ → Bool
ends_text Ahead line = false
ends_text Divided line = false
ends_text Begun line = length line == 0

-- the lines of a text from a line on, divided at each line that ends a text, which is part of none
abbrev pub ended : FreeText → List MailLine → List (List MailLine)
ended free [] = [] ∷ []
ended free (line ∷ below) =
    if ends_text free line.bytes then [] ∷ ended Ahead below
    else onto_first line (ended (free_after free line.bytes) below)

-- the parts of texts, each divided at the lines that end its text in a free text
abbrev pub cut_parts : List (List MailLine) → List (List MailLine)
cut_parts = flat_map (ended Ahead)
