use Rattle.ssim_mailbox.proofs.TextsAgain.{texts_read_again}
use Rattle.ssim_mailbox.proofs.laws.texts_read_again.Goals as goal

pub returns : goal.returns
returns c = texts_read_again
