-- What contracts see of the texts of a mailbox.
use Rattle.ssim_mailbox.specs.declared.text.Text.{Text}
use Rattle.ssim_mailbox.specs.Texts.{MailText}

-- what contracts see of a text
abbrev pub mail_of : Text → MailText
mail_of t = record { line = t.line; bytes = t.bytes.items }
