-- Each day of the period is after the latest day of the list.
use Rattle.std.proofs.Common.{◌<◌, arith}
use Rattle.std.proofs.lemmas.Bool.Decides.{nat_tests}
use Rattle.std.specs.List.{list_any}
use Rattle.ssim_values.specs.Period.{DayRange}
use Rattle.ssim_periods.specs.Calendar.{holds}
use Rattle.ssim_base.proofs.DateLemmas.{later-apart}
use Rattle.ssim_base.proofs.leg_table.period_list.PeriodList.ends_before.Goals as goal

pub returns : goal.returns
returns c = λ h.
    let p = c.args.period.now in
    let list = c.args.self.now in
    let after : list.latest < p.first = grind (arith, nat_tests) in
    later-apart p (λ n. list_any (λ (q : DayRange). holds q n) list.periods.items) list.latest after list.ended
