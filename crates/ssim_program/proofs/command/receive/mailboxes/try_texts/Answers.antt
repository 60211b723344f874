-- The next text is tried, of those that are left.
use Rattle.std.proofs.Common.{◌≡◌, ◌∙◌, ◌∷◌, ◌++◌, [], List, Ok, Option, ap, option_map, refl, sym, subst}
use Rattle.std.specs.Option.{option_to_list}
use Rattle.ssim_mailbox.specs.clauses.Mail.{mail_of}
use Rattle.ssim_mailbox.specs.Texts.{MailText, texts_in}
use Rattle.ssim_mailbox.specs.declared.text.Text as mailbox
use Rattle.ssim_program.specs.Receiving.{TriesEach}
use Rattle.ssim_program.specs.internal.Receive.{receipt_of}
use Rattle.ssim_program.proofs.Received.{Receiving, Through, begun, ends, text_tried}
use Rattle.ssim_program.proofs.command.receive.mailboxes.try_texts.Goals as goal

pub loop-texts-init : goal.loop-texts-init
loop-texts-init c =
    let file = c.args.file.now in
    let whole : Receiving = λ before some after. TriesEach file before (texts_in c.args.mailbox.now) some after in
    subst (λ (texts : List MailText). Through whole (λ before some after. TriesEach file before texts some after) c.args.desk.now c.args.desk.now c.args.receipts.now c.args.receipts.now) (sym c.in_ok-texts.ensures)
    (begun whole c.args.desk.now c.args.receipts.now)

pub loop-texts-preserved : goal.loop-texts-preserved
loop-texts-preserved c =
    let at = c.loop-texts in
    let text = c.in-Some.text in
    let rest = c.next_text.new.self in
    let steps : at.texts ≡ mail_of text ∷ rest = c.in_ok-text.ensures.next ∙ ap (λ (t : Option mailbox.Text). option_to_list (option_map mail_of t) ++ rest) c.in-Some.is in
    text_tried c.args.file.now (texts_in c.args.mailbox.now) at.texts rest (mail_of text) c.args.desk.now at.desk c.try_text.new.desk c.args.receipts.now at.receipts c.push.new.self (receipt_of c.try_text.result) steps c.try_text.ensures
    c.in_ok-push.ensures at.invariant

pub returns : goal.returns
returns c =
    let at = c.loop-texts in
    let file = c.args.file.now in
    let none : at.texts ≡ [] = c.next_text.ensures.none (c.in_ok-text.was ∙ ap Ok c.in_default.is) in
    ends (λ before some after. TriesEach file before (texts_in c.args.mailbox.now) some after) (λ before some after. TriesEach file before at.texts some after) c.args.desk.now at.desk
    c.args.receipts.now at.receipts (subst (λ (ts : List MailText). TriesEach file at.desk ts [] at.desk) (sym none) (refl, refl)) at.invariant
