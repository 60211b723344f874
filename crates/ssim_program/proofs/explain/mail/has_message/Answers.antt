-- A line of the text is SSM or ASM.
use Rattle.std.proofs.Common.{◌≡◌, ◌∙◌, ℕ, List, ap, sym}
use Rattle.std.specs.List.{list_any}
use Rattle.ssim_mailbox.specs.Roles.{is_kind}
use Rattle.ssim_text.specs.Left.{lines_left}
use Rattle.ssim_text.specs.declared.lines.Line.{Line}
use Rattle.ssim_program.proofs.Mailboxes.{any-map}
use Rattle.ssim_program.proofs.explain.mail.has_message.Goals as goal

pub returns : goal.returns
returns c =
    c.has_kind.ensures
    ∙ ap (list_any (λ (l : Line). is_kind l.bytes.now)) c.deref-2.ensures.value
    ∙ sym (any-map (λ (l : Line). (l.number, l.bytes.now)) (λ (l : ℕ × List ℕ). is_kind l.1) c.in_ok-lines.lines.items)
    ∙ ap (list_any (λ (l : ℕ × List ℕ). is_kind l.1)) c.in_ok-lines.ensures.lines
    ∙ ap (λ (text : List ℕ). list_any (λ (l : ℕ × List ℕ). is_kind l.1) (lines_left text)) c.deref.ensures.value
