-- Texts of mailboxes that are put into one mailbox, to be read again.
use Rattle.std.specs.Prelude.{◌≡◌, ℕ, List, ◌++◌, Contains, codes, map}
use Rattle.std.specs.List.{AllByRecursion, flat_map}
use Rattle.ssim_mailbox.specs.Texts.{MailText, texts_in}

-- what texts say, byte for byte
abbrev pub bytes_of : List MailText → List (List ℕ)
bytes_of = map (λ text. text.bytes)

-- each of these texts, and a line NNNN below it
abbrev pub ended_texts : List MailText → List ℕ
ended_texts = flat_map (λ text. text.bytes ++ codes "NNNN\n")

-- a text that some mailbox has
abbrev pub IsMailText : MailText → Type 0
IsMailText text = (mailbox : List ℕ) × Contains (texts_in mailbox) text

-- Texts of any mailboxes, each with a line NNNN below it, are a mailbox of exactly these texts, in
-- order and byte for byte. No line of them begins or ends a text where it did not before.
abbrev pub TextsReadAgain : Type 0
TextsReadAgain =
    (texts : List MailText) → AllByRecursion IsMailText texts
    → bytes_of (texts_in (ended_texts texts)) ≡ bytes_of texts
