use Rattle.std.proofs.Common.{sym}
use Rattle.ssim_schedule.proofs.SameTails.{other_count}
use Rattle.ssim_schedule.proofs.leg.same_tails.Goals as goal

pub returns-then-mine-theirs : goal.returns-then-mine-theirs
returns-then-mine-theirs c = sym (other_count c.args.mine.now c.args.theirs.now c.if-mine-theirs.true)
