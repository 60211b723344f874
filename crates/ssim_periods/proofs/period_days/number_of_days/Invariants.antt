-- The days on the weekdays so far.
use Rattle.std.proofs.Common.{◌≡◌, ◌+◌}
use Rattle.ssim_periods.specs.internal.Count.{weigh}
use Rattle.ssim_periods.proofs.PeriodDays.{has}
use Rattle.ssim_periods.proofs.period_days.number_of_days.Given as goal

abbrev pub invariant-loop-weekday : goal.invariant-loop-weekday
invariant-loop-weekday l = l.count + weigh (has l.days) l.weekday l.first ≡ weigh (has l.days) l.weekday l.end
