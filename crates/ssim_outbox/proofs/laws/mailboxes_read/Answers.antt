-- Message by message.
use Rattle.ssim_outbox.proofs.MailTexts.{joined_texts_read, mailboxes_read, sent_are_mail}
use Rattle.ssim_outbox.proofs.laws.mailboxes_read.Goals as goal

pub returns-clause-read : goal.returns-clause-read
returns-clause-read c = mailboxes_read

pub returns-clause-joined : goal.returns-clause-joined
returns-clause-joined c = joined_texts_read

pub returns-clause-sent : goal.returns-clause-sent
returns-clause-sent c = sent_are_mail
