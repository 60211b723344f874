-- What is found in a file, what becomes of the texts of a mailbox, what is an example of refusals, and
-- which of them a word names.
use Rattle.std.specs.Prelude.{◌≡◌, ℕ, List, Option, Some, None, false, true}
use Rattle.ssim_command_line.specs.Line.{Text}
use Rattle.ssim_guide.specs.Words.{is_refusal}
use Rattle.ssim_mailbox.specs.Texts.{MailText}
use Rattle.ssim_mailbox.specs.clauses.Mail.{mail_of}
use Rattle.ssim_text.specs.declared.fault.TextFault.{TextFault}
use Rattle.ssim_program.specs.declared.explain.file_kind.FileKind.{FileKind}
use Rattle.ssim_program.specs.declared.explain.mail.TriedText.{TriedText}
use Rattle.ssim_program.specs.declared.refusal.Refusal.{Refusal}
use Rattle.ssim_program.specs.Explained.{IsInvalid, IsValid, Names}
use Rattle.ssim_program.specs.print.Refusal.{refusal_number}

-- the refusal of a file, or that it is valid
abbrev pub Judges : FileKind → List ℕ → Option Refusal → Type 0
Judges k bytes (Some refusal) = IsInvalid k bytes refusal
Judges k bytes None = IsValid k bytes

-- a text that was tried, as contracts see it
abbrev pub tried_of : TriedText → MailText × Option TextFault
tried_of t = (mail_of t.text, t.fault)

-- an example of the refusals of a number, if a command may have one
abbrev pub IsExample : ℕ → Option Refusal → Type 0
IsExample number (Some r) = (is_refusal number ≡ true) × (refusal_number r ≡ number)
IsExample number None = is_refusal number ≡ false

-- the word names no refusal of this number that a command may have
abbrev pub NamesNoneOf : ℕ → Text → Type 0
NamesNoneOf number word = is_refusal number ≡ true
    → (refusal : Refusal) → refusal_number refusal ≡ number → Names word refusal → ⊥
