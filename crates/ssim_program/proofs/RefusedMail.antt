-- The refused texts of receipts are texts of the mailboxes that were received, each with NNNN below
-- it.
use Rattle.std.proofs.Common.{◌≡◌, ◌∙◌, ◌⊎◌, inl, inr, List, [], ◌∷◌, ◌++◌, Option, ℕ, codes, sym, ap}
use Rattle.std.proofs.Common.{subst, refl}
use Rattle.std.specs.List.{AllByRecursion, flat_map}
use Rattle.std.proofs.lemmas.Grind.{flat_map-append}
use Rattle.std.proofs.lemmas.List.Elements.{All-contains_itself, recursion_from_All}
use Rattle.std.specs.Prelude.{Contains}
use Rattle.ssim_mailbox.specs.Again.{IsMailText, TextsReadAgain, bytes_of, ended_texts}
use Rattle.ssim_mailbox.specs.Texts.{MailText, texts_in}
use Rattle.ssim_held.specs.Entries.{DeskSeen}
use Rattle.ssim_command_line.specs.Line.{Text}
use Rattle.ssim_program.specs.Files.{Files}
use Rattle.ssim_program.specs.Receiving.{Accepted, Receipt, ReceivesEach, ReceivesFile, Refused}
use Rattle.ssim_program.specs.Receiving.{RefusedTextsAreMail, TriesEach, Unread, refused_of}
use Rattle.ssim_program.specs.Receiving.{refused_texts}

-- ---- the bytes

kept_texts : (receipts : List Receipt)
    → refused_texts receipts ≡ ended_texts (flat_map refused_of receipts)
kept_texts [] = refl
kept_texts (Accepted file n answer reference ∷ receipts) = kept_texts receipts
kept_texts (Refused file text fault ∷ receipts) =
    ap (λ (later : List ℕ). (text.bytes ++ codes "NNNN\n") ++ later) (kept_texts receipts)
kept_texts (Unread file ∷ receipts) = kept_texts receipts

-- ---- the texts

-- the refused texts are texts of mailboxes
abbrev AreMail : List Receipt → Type 0
AreMail receipts = AllByRecursion IsMailText (flat_map refused_of receipts)

both : (xs ys : List MailText) → AllByRecursion IsMailText xs → AllByRecursion IsMailText ys
    → AllByRecursion IsMailText (xs ++ ys)
both [] ys h k = k
both (x ∷ xs) ys h k = (h.0, both xs ys h.1 k)

joined : (first later : List Receipt) → AreMail first → AreMail later → AreMail (first ++ later)
joined first later h k =
    subst (AllByRecursion IsMailText) (sym (flat_map-append refused_of first later))
    (both (flat_map refused_of first) (flat_map refused_of later) h k)

each_tried : (file : Text) (texts : List MailText) (before after : DeskSeen) (receipts : List Receipt)
    → AllByRecursion IsMailText texts → TriesEach file before texts receipts after → AreMail receipts
each_tried file [] before after receipts h (none, same) = subst AreMail (sym none) tt
each_tried file (text ∷ texts) before after receipts h (first, later, between, tries, others, is) =
    subst AreMail (sym is) (by first tries (each_tried file texts between after later h.1 others))
  where
    by : (first : Receipt) → Rattle.ssim_program.specs.Receiving.Tries file before text first between
        → AreMail later → AreMail (first ∷ later)
    by (Accepted name n answer reference) tries rest = rest
    by (Refused name refused fault) tries rest = (subst IsMailText (sym tries.1) h.0, rest)
    by (Unread name) tries rest = absurd tries

texts_of_mailbox : (mailbox : List ℕ) → AllByRecursion IsMailText (texts_in mailbox)
texts_of_mailbox mailbox =
    each (texts_in mailbox)
    (recursion_from_All (Contains (texts_in mailbox)) (texts_in mailbox)
    (All-contains_itself (texts_in mailbox)))
  where
    each : (ts : List MailText) → AllByRecursion (Contains (texts_in mailbox)) ts
        → AllByRecursion IsMailText ts
    each [] h = tt
    each (t ∷ ts) h = ((mailbox, h.0), each ts h.1)

file_mail : (files : Option Files) (name : Text) (before after : DeskSeen) (receipts : List Receipt)
    → ReceivesFile files name before receipts after → AreMail receipts
file_mail files name before after receipts (inl (bytes, has, tries)) =
    each_tried name (texts_in bytes) before after receipts (texts_of_mailbox bytes) tries
file_mail files name before after receipts (inr (missing, is, same)) = subst AreMail (sym is) tt

files_mail : (files : Option Files) (names : List Text) (before after : DeskSeen)
    (receipts : List Receipt) → ReceivesEach files names before receipts after → AreMail receipts
files_mail files [] before after receipts (none, same) = subst AreMail (sym none) tt
files_mail files (name ∷ names) before after receipts (first, later, between, here, others, is) =
    subst AreMail (sym is)
    (joined first later (file_mail files name before between first here)
    (files_mail files names between after later others))

pub refused_texts_are_mail : TextsReadAgain → RefusedTextsAreMail
refused_texts_are_mail again files file names receipts after (before, read, (receives, rising)) =
    ap (λ (bytes : List ℕ). bytes_of (texts_in bytes)) (kept_texts receipts)
    ∙ again (flat_map refused_of receipts) (files_mail files names before after receipts receives)
