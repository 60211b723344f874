-- By the messages, one after another.
use Rattle.ssim_outbox.proofs.Sent.{serials_rise, subs_are_joined}
use Rattle.ssim_outbox.proofs.laws.messages_send_each_once.Goals as goal

pub returns-clause-joined : goal.returns-clause-joined
returns-clause-joined c = subs_are_joined

pub returns-clause-rise : goal.returns-clause-rise
returns-clause-rise c = serials_rise
