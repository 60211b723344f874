-- A date that a period has in common with the list is a date of one of its periods.
use Rattle.std.proofs.Common.{List, ap, ◌∙◌}
use Rattle.std.specs.List.{list_any}
use Rattle.ssim_values.specs.Period.{DayRange}
use Rattle.ssim_periods.specs.CommonDays.{meet}
use Rattle.ssim_base.proofs.DateLemmas.{meets-any}
use Rattle.ssim_base.proofs.leg_table.period_list.PeriodList.meets_any.Goals as goal

pub returns : goal.returns
returns c =
    let p = c.args.period.now in
    c.any_meets.ensures
    ∙ ap (λ (earlier : List DayRange). list_any (λ q. meet p q) earlier) c.deref.ensures.value
    ∙ meets-any p c.args.self.now.periods.items
