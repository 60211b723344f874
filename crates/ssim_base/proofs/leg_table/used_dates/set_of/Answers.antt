-- The dates of one more period.
use Rattle.std.proofs.Common.{◌||◌, take, sym, ap, ◌∙◌}
use Rattle.std.specs.List.{list_any}
use Rattle.std.proofs.lemmas.List.Folds.{list_any_more}
use Rattle.ssim_values.specs.Period.{DayRange}
use Rattle.ssim_periods.specs.Calendar.{holds}
use Rattle.ssim_base.proofs.DateLemmas.{or-flip}
use Rattle.ssim_base.proofs.leg_table.used_dates.set_of.Goals as goal

pub loop-period-preserved : goal.loop-period-preserved
loop-period-preserved c = λ n.
    let before = list_any (λ (p : DayRange). holds p n) (take c.loop-period.period-index c.args.periods.now) in
    c.add_period.ensures.days n
    ∙ ap (λ b. holds c.period-item.result n || b) (c.loop-period.invariant n)
    ∙ or-flip (holds c.period-item.result n) before
    ∙ ap (λ (p : DayRange). before || holds p n) c.period-item.is
    ∙ sym (list_any_more (λ p. holds p n) c.args.periods.now c.loop-period.period-index c.period-item.result c.loop-period-test.true)
