-- The bytes that are left are those of the lines up to the last that is not empty.
use Rattle.std.proofs.Common.{◌≤◌, ◌∙◌, ap, arith, length, ℕ, List, Some}
use Rattle.std.proofs.lemmas.Grind.{common_steps}
use Rattle.ssim_mailbox.specs.Texts.{MailText}
use Rattle.ssim_mailbox.proofs.Drafts.{text_found}
use Rattle.ssim_mailbox.proofs.draft.TextDraft.into_text.Goals as goal

abbrev a_text : ℕ → List ℕ → MailText
a_text line bytes = record { line = line; bytes = bytes }

pub returns-clause-text : goal.returns-clause-text
returns-clause-text c begun h =
    let d = c.args.self in
    let some : 1 ≤ length d.bytes.items = grind (arith, common_steps) in
    ap (λ (bytes : List ℕ). Some (a_text d.line bytes)) c.truncate.ensures.items ∙ text_found d.line d.bytes.items d.end begun some h
