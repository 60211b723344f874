use Rattle.ssim_base.proofs.DateLemmas.{Added}
use Rattle.ssim_base.proofs.leg_table.day_set.DaySet.add_period.Given as goal

abbrev pub invariant-loop-day : goal.invariant-loop-day
invariant-loop-day l = Added l.period l.day l.fn.self.words.items l.self.words.items l.met
