use Rattle.ssim_desk.proofs.Agreeing.{same_messages_same_desk}
use Rattle.ssim_desk.proofs.Moments.{holds_what_reached}
use Rattle.ssim_desk.proofs.laws.order_is_free.Goals as goal

pub returns : goal.returns
returns c = record { holds = holds_what_reached c.one_message.ensures; same = same_messages_same_desk c.one_message.ensures }
