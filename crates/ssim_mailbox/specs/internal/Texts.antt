-- Texts of which one has begun.
use Rattle.std.specs.Prelude.{◌≡◌, ℕ, Bool, false, true, List, [], ◌∷◌, ◌++◌, ◌≤◌, drop, length}
use Rattle.std.specs.Prelude.{take}
use Rattle.ssim_mailbox.specs.declared.draft.TextDraft.{TextDraft}
use Rattle.ssim_mailbox.specs.declared.free_text.FreeText.{FreeText}
use Rattle.ssim_mailbox.specs.declared.line.Lines.{Lines}
use Rattle.ssim_mailbox.specs.declared.role.Role.{Role}
use Rattle.ssim_mailbox.specs.declared.role.Role.TheVariants.{First, Inside, Envelope, End}
use Rattle.ssim_mailbox.specs.FreeTexts.{cut_parts, ended, ends_text}
use Rattle.ssim_mailbox.specs.Lines.{MailLine, drop_while}
use Rattle.ssim_mailbox.specs.Texts.{MailText, is_empty, parts_of, texts_of, trimmed, written}
use Rattle.ssim_mailbox.specs.internal.Lines.{lines_left, pieces_left}
use Rattle.ssim_mailbox.specs.internal.Roles.{AreRoles}

-- the number is the number of the first of these lines, if there is any
abbrev pub IsFirstNumber : ℕ → List MailLine → Type 0
IsFirstNumber n [] = Unit {0}
IsFirstNumber n (line ∷ below) = n ≡ line.number

-- The bytes are those of these lines, without empty lines at the beginning. The text ends after the
-- last line that is not empty, and n is the number of its first.
pub record HasLines (n : ℕ) (bytes : List ℕ) (end : ℕ) (begun : List MailLine) : Type 0 where
  pub number : IsFirstNumber n (drop_while is_empty begun)
  pub bytes_are : bytes ≡ written (drop_while is_empty begun)
  pub within : end ≤ length bytes
  pub text : take end bytes ≡ written (trimmed begun)

-- a draft has these lines
abbrev pub IsDraft : TextDraft → List MailLine → Type 0
IsDraft draft begun = HasLines draft.line draft.bytes.items draft.end begun

-- the number of the first line, if a line of number m is added to a draft of these bytes
abbrev pub number_from : List ℕ → ℕ → ℕ → ℕ
number_from [] n m = m
number_from (b ∷ bytes) n m = n

-- the parts, the first of which begins with these lines
abbrev pub onto_begun : List MailLine → List (List MailLine) → List (List MailLine)
onto_begun begun [] = begun ∷ []
onto_begun begun (part ∷ parts) = (begun ++ part) ∷ parts

-- the parts, divided where free texts end; the first goes on with this free text
abbrev pub ended_from : FreeText → List (List MailLine) → List (List MailLine)
ended_from free [] = []
ended_from free (part ∷ parts) = ended free part ++ cut_parts parts

-- the texts of the parts, the first of which begins with these lines, that leave this free text
abbrev pub texts_with : List MailLine → FreeText → List (List MailLine) → List MailText
texts_with begun free parts = texts_of (onto_begun begun (ended_from free parts))

-- whether a line of this role ends the text above it, with this free text
abbrev pub ends_by : FreeText → Role → List ℕ → Bool
ends_by free First line = true
ends_by free Inside line = ends_text free line
ends_by free Envelope line = false
ends_by free End line = true

-- the texts of the lines that are left
abbrev pub texts_left : Lines → List MailText
texts_left lines = texts_of (cut_parts (parts_of (lines_left lines)))

-- the roles are those of all lines, as if none were under a dot
pub record AreRolesOf (roles : List Role) (lines : Lines) : Type 0 where
  pub within : lines.above ≤ length roles
  pub are : AreRoles (drop lines.above roles) (pieces_left lines)
