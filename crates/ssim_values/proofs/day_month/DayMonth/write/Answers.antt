-- The text of a day of a month is read as that day alone.
use Rattle.ssim_values.proofs.DayMonthLaws.{SpellsDayMonth-unique}
use Rattle.ssim_values.proofs.day_month.DayMonth.write.Goals as goal

pub returns-clause-reads_back : goal.returns-clause-reads_back
returns-clause-reads_back c = λ x p.
    SpellsDayMonth-unique x c.args.self _ p (rw (← c.self.view_is) (record { is_date = c.self.invariant; spelled = c.write_day_month.ensures }))
