-- A period adds its days to the marked ones.
use Rattle.ssim_periods.proofs.JoinLemmas.{marks-more}
use Rattle.ssim_periods.proofs.apart_periods.entries.rows_of_periods.Goals as goal

pub loop-period-preserved : goal.loop-period-preserved
loop-period-preserved c = marks-more c.args.periods.now c.loop-period.period-index c.period-item.result c.loop-period.rows.days c.mark.new.self.days c.loop-period-test.true c.period-item.is c.loop-period.invariant c.in_ok-mark.ensures
