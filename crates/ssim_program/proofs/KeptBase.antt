-- Texts that are taken or received, and a merge, leave the base as it is.
use Rattle.std.proofs.Common.{◌≡◌, ◌∙◌, inl, inr, ℕ, List, [], ◌∷◌, Ok, Option, ap}
use Rattle.ssim_held.specs.Entries.{DeskSeen}
use Rattle.ssim_mailbox.specs.Texts.{MailText}
use Rattle.ssim_command_line.specs.Line.{Text}
use Rattle.ssim_program.specs.Desks.{text_taken}
use Rattle.ssim_program.specs.Files.{Files}
use Rattle.ssim_program.specs.MergingSince.{merged_since}
use Rattle.ssim_program.specs.Receiving.{Accepted, Receipt, ReceivesEach, ReceivesFile, Refused}
use Rattle.ssim_program.specs.Receiving.{Tries, TriesEach, Unread}

-- a text in a file
pub taken_base : (files : Option Files) (name : Text) (before after : DeskSeen) (line : List ℕ)
    → text_taken files name before (Ok (after, line)) → after.base ≡ before.base
taken_base files name before after line (text, has, (answer, reference, is, printed)) = is.base

-- a text of a mailbox
of_text : (file : Text) (before : DeskSeen) (text : MailText) (receipt : Receipt) (after : DeskSeen)
    → Tries file before text receipt after → after.base ≡ before.base
of_text file before text (Accepted name n answer reference) after (same_file, same_line, taken) =
    taken.base
of_text file before text (Refused name refused fault) after (same_file, same_text, why, same) =
    ap (λ (desk : DeskSeen). desk.base) same
of_text file before text (Unread name) after tries = absurd tries

-- texts of a mailbox
of_texts : (file : Text) (texts : List MailText) (before : DeskSeen) (receipts : List Receipt)
    (after : DeskSeen) → TriesEach file before texts receipts after → after.base ≡ before.base
of_texts file [] before receipts after (none, same) = ap (λ (desk : DeskSeen). desk.base) same
of_texts file (text ∷ texts) before receipts after (first, later, between, tries, others, are) =
    of_texts file texts between later after others ∙ of_text file before text first between tries

-- the mailboxes of files
pub received_base : (files : Option Files) (names : List Text) (before : DeskSeen)
    (receipts : List Receipt) (after : DeskSeen) → ReceivesEach files names before receipts after
    → after.base ≡ before.base
received_base files [] before receipts after (none, same) = ap (λ (desk : DeskSeen). desk.base) same
received_base files (name ∷ names) before receipts after (first, later, between, one, others, are) =
    received_base files names between later after others ∙ by one
  where
    by : ReceivesFile files name before first between → between.base ≡ before.base
    by (inl (bytes, has, tries)) = of_texts name _ before first between tries
    by (inr (none, unread, same)) = ap (λ (desk : DeskSeen). desk.base) same

-- two desks without what was withdrawn
pub since_base : (old : Option DeskSeen) (mine theirs after : DeskSeen)
    → merged_since old mine theirs (Ok after) → after.base ≡ mine.base
since_base old mine theirs after (left, stays, (brought, comes, merge)) = merge.base ∙ stays.base
