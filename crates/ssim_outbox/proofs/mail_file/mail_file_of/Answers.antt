-- A mailbox has the texts of the file.
use Rattle.std.proofs.Common.{◌∙◌, ◌++◌, List, ℕ, ap}
use Rattle.ssim_mailbox.specs.Texts.{texts_in}
use Rattle.ssim_outbox.specs.MailFile.{mail_file}
use Rattle.ssim_outbox.proofs.MailTexts.{mailboxes_read}
use Rattle.ssim_outbox.proofs.mail_file.mail_file_of.Goals as goal

pub returns-clause-read : goal.returns-clause-read
returns-clause-read c mail =
    let messages = c.args.messages.now in
    let all = λ (begun : List ℕ). begun ++ mail_file messages in
    ap texts_in (c.in_ok-push_each.ensures ∙ ap all c.new-bytes.ensures.items)
    ∙ mailboxes_read messages mail
