-- Mail among the files that `explain` takes for a text or a station table: a mailbox, of which
-- `receive` makes more than one text or leaves out lines, and a mail without a message.
use Rattle.std.specs.Prelude.{◌≡◌, ℕ, Bool, true, ◌&&◌, ◌||◌, ◌==◌, not, nat_lt}
use Rattle.std.specs.Prelude.{List, [], ◌∷◌, ◌++◌, codes, length, map}
use Rattle.std.specs.Prelude.{Option, Some, None, is_some}
use Rattle.std.specs.Char.{is_ascii_alphanumeric}
use Rattle.std.specs.Fmt.{decimal}
use Rattle.std.specs.List.{AllByRecursion, count_by, list_any}
use Rattle.ssim_base.specs.Export.{line}
use Rattle.ssim_mailbox.specs.Lines.{drop_while}
use Rattle.ssim_mailbox.specs.Roles.{is_kind}
use Rattle.ssim_mailbox.specs.Texts.{MailText, texts_in}
use Rattle.ssim_text.specs.Decoder.{IsRefusal, NoMessage}
use Rattle.ssim_text.specs.Left.{lines_left}
use Rattle.ssim_text.specs.Message.{MessageValue}
use Rattle.ssim_text.specs.Spelling.{SpellsMessage}
use Rattle.ssim_text.specs.declared.fault.TextFault.{TextFault}
use Rattle.ssim_program.specs.Foreign.{begins_with}

-- ---- whether a file is mail

-- whether a text has a line SSM or ASM
abbrev pub has_message : MailText → Bool
has_message text = list_any (λ l. is_kind l.1) (lines_left text.bytes)

-- whether there are several texts, or a line of the file is in none of them
abbrev pub are_more : List MailText → List ℕ → Bool
are_more (text ∷ []) bytes =
    nat_lt (length (lines_left text.bytes)) (length (lines_left bytes))
are_more texts bytes = true

-- whether a file is a mailbox: `receive` finds a message there, and not the file as its only text
abbrev pub is_mailbox : List ℕ → Bool
is_mailbox bytes = list_any has_message (texts_in bytes) && are_more (texts_in bytes) bytes

-- whether a byte may be in the name of a header: a letter, a digit or a hyphen
abbrev pub is_of_name : ℕ → Bool
is_of_name b = is_ascii_alphanumeric b || b == 45

-- the bytes after a name
abbrev pub after_name : List ℕ → List ℕ
after_name = drop_while is_of_name

-- whether the first line is that of a mail in a mail folder, or the header of a mail, as `Subject: `
abbrev pub begins_mail : List ℕ → Bool
begins_mail bytes =
    begins_with bytes (codes "From ")
    || (not (begins_with bytes (codes ":")) && begins_with (after_name bytes) (codes ": "))

-- whether a file is a mail in which `receive` finds no message
abbrev pub is_mail : List ℕ → Bool
is_mail bytes = begins_mail bytes && not (list_any has_message (texts_in bytes))

-- ---- what is said of a mailbox

-- a text is no message for the reason that is told, or it is a message
abbrev pub IsTried : MailText × Option TextFault → Type 0
IsTried (text, Some fault) = NoMessage text.bytes fault × IsRefusal text.bytes fault
IsTried (text, None) = (message : MessageValue) × SpellsMessage message text.bytes

-- the first line, without its end: how many texts the mailbox has, and how many are no message
abbrev pub mailbox_text : List (MailText × Option TextFault) → List ℕ
mailbox_text tried =
    codes "mailbox texts " ++ decimal (length tried) ++ codes " refused "
    ++ decimal (count_by (λ t. is_some t.1) tried)

-- whether one of the texts is no message
abbrev pub any_is_none : List (MailText × Option TextFault) → Bool
any_is_none tried = nat_lt 0 (count_by (λ t. is_some t.1) tried)

-- the text begins with the line that counts the texts of a mailbox, each of which is tried; something
-- is found if one of them is no message
abbrev pub BeginsWithMailbox : List ℕ → List ℕ → Bool → Type 0
BeginsWithMailbox bytes printed found = (tried : List (MailText × Option TextFault))
    × (map (λ t. t.0) tried ≡ texts_in bytes) × AllByRecursion IsTried tried
    × (found ≡ any_is_none tried)
    × (rest : List ℕ) × (printed ≡ line (mailbox_text tried) ++ rest)
