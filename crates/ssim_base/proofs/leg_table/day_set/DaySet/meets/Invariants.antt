use Rattle.ssim_base.proofs.DateLemmas.{Met}
use Rattle.ssim_base.proofs.leg_table.day_set.DaySet.meets.Given as goal

abbrev pub invariant-loop-day : goal.invariant-loop-day
invariant-loop-day l = Met l.period l.day l.fn.self.words.items l.met
