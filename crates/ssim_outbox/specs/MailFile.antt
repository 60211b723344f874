-- The file in which messages are kept until they are sent, and what a mailbox reads in it.
use Rattle.std.specs.Prelude.{◌≡◌, ℕ, ◌+◌, Bool, true, not, ◌||◌, List, [], ◌∷◌, ◌++◌, codes, length}
use Rattle.std.specs.List.{AllByRecursion, flat_map, join_by, list_all}
use Rattle.ssim_text.specs.Canonical.{canonical, canonical_parts}
use Rattle.ssim_text.specs.Message.{MessageValue}
use Rattle.ssim_text.specs.declared.action.Sub.{Sub}
use Rattle.ssim_mailbox.specs.Lines.{begins_with_dot}
use Rattle.ssim_mailbox.specs.Roles.{is_end, is_kind}
use Rattle.ssim_mailbox.specs.Texts.{MailText, texts_in}
use Rattle.ssim_outbox.specs.Messages.{IsText, Send}

-- the canonical text of each message, with a line NNNN after it
abbrev pub mail_file : List MessageValue → List ℕ
mail_file = flat_map (λ m. canonical m ++ codes "NNNN\n")

-- whether a line is none of those that may end or begin a text of a mailbox: NNNN, SSM, ASM, and
-- lines that begin with a dot
abbrev pub is_plain : List ℕ → Bool
is_plain line = not (is_end line || is_kind line || begins_with_dot line)

-- a message that a text can have, in which each line of the free text is plain, if there is any
pub record IsMail (m : MessageValue) : Type 0 where
  pub text : IsText m
  pub free : list_all is_plain m.free ≡ true

-- The canonical texts of messages, each with the number of the line on which it begins. The first
-- begins on line n; a text has a line for each part of its message, and NNNN is one more line.
abbrev pub mail_texts : ℕ → List MessageValue → List MailText
mail_texts n [] = []
mail_texts n (m ∷ messages) =
    record { line = n; bytes = canonical m } ∷ mail_texts (n + length (canonical_parts m) + 1)
    messages

-- a mailbox with the bytes of the file of such messages has their canonical texts and no others, in
-- order, the first of which begins on line 1
abbrev pub MailboxesRead : Type 0
MailboxesRead =
    (messages : List MessageValue) → AllByRecursion IsMail messages
    → texts_in (mail_file messages) ≡ mail_texts 1 messages

-- the canonical texts of messages, an empty line between two
abbrev pub joined_texts : List MessageValue → List ℕ
joined_texts = join_by canonical (10 ∷ [])

-- a mailbox with the canonical texts of such messages, an empty line between two, has these texts and
-- no others, at the same lines
abbrev pub JoinedTextsRead : Type 0
JoinedTextsRead =
    (messages : List MessageValue) → AllByRecursion IsMail messages
    → texts_in (joined_texts messages) ≡ mail_texts 1 messages

-- messages that send sub-messages are such messages
abbrev pub SentAreMail : Type 0
SentAreMail =
    (heading : MessageValue) (group : ℕ) (subs : List Sub) (messages : List MessageValue)
    → Send heading group subs messages → AllByRecursion IsMail messages
