-- The texts of a mailbox.
use Rattle.std.specs.Prelude.{ℕ, Bool, ◌==◌, List, [], ◌∷◌, ◌++◌, length, Option, Some, None}
use Rattle.std.specs.List.{filter_map, flat_map, onto_first}
use Rattle.ssim_mailbox.specs.declared.role.Role.{Role}
use Rattle.ssim_mailbox.specs.declared.role.Role.TheVariants.{First, Inside, Envelope, End}
use Rattle.ssim_mailbox.specs.FreeTexts.{cut_parts}
use Rattle.ssim_mailbox.specs.Lines.{MailLine, drop_while, drop_while_at_end, lines_in}
use Rattle.ssim_mailbox.specs.Roles.{role_of}

-- the parts below a line, and the line by its role
abbrev pub with_line : Role → MailLine → List (List MailLine) → List (List MailLine)
with_line First line parts = [] ∷ onto_first line parts
with_line Inside line parts = onto_first line parts
with_line Envelope line parts = parts
with_line End line parts = [] ∷ parts

-- the lines divided before the first line of each text and at each NNNN, without envelopes
abbrev pub parts_of : List MailLine → List (List MailLine)
parts_of [] = [] ∷ []
parts_of (line ∷ below) = with_line (role_of line below) line (parts_of below)

-- whether a line is empty
abbrev pub is_empty : MailLine → Bool
is_empty line = length line.bytes == 0

-- lines without empty lines at both ends
abbrev pub trimmed : List MailLine → List MailLine
trimmed lines = drop_while_at_end is_empty (drop_while is_empty lines)

-- a text of a mailbox: the number of the line on which it begins, and its bytes
pub record MailText : Type 0 where
  pub line : ℕ
  pub bytes : List ℕ

-- the bytes of lines, each of which LF ends
abbrev pub written : List MailLine → List ℕ
written = flat_map (λ line. line.bytes ++ 10 ∷ [])

-- the text of these lines, if there is any
abbrev pub text_from : List MailLine → Option MailText
text_from [] = None
text_from (line ∷ more) = Some (record { line = line.number; bytes = written (line ∷ more) })

-- the texts of these parts; a part of empty lines is none
abbrev pub texts_of : List (List MailLine) → List MailText
texts_of = filter_map (λ part. text_from (trimmed part))

-- the texts of a mailbox; an empty line in a free text ends it, too
abbrev pub texts_in : List ℕ → List MailText
texts_in mailbox = texts_of (cut_parts (parts_of (lines_in mailbox)))
