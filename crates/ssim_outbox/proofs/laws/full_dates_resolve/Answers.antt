-- A full date means itself.
use Rattle.ssim_outbox.proofs.Sent.{full_dates_resolve}
use Rattle.ssim_outbox.proofs.laws.full_dates_resolve.Goals as goal

pub returns : goal.returns
returns c = full_dates_resolve
