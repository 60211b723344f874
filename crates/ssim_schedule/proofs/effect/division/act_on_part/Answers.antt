-- The effect is the same on all days, so it is the effect on the first day.
use Rattle.std.proofs.Common.{◌∙◌}
use Rattle.ssim_schedule.proofs.Acts.{counts_made, days_made}
use Rattle.ssim_base.proofs.Results.{if_ok, on_ok}
use Rattle.ssim_schedule.proofs.effect.division.act_on_part.Goals as goal

pub returns-clause-days : goal.returns-clause-days
returns-clause-days c =
    let change = c.in_ok-change.change in
    on_ok c.apply.result
    (days_made c.args.rows.now change.rows.now c.args.action.now change.action.now c.args.part.now change.day c.in_ok-change.ensures.rows c.in_ok-change.ensures.action (c.in_ok-change.ensures.day ∙ c.first.ensures.value) c.requires c.args.periods.now.days c.apply.new.self.days)
    c.apply.ensures.days

pub returns-clause-counts : goal.returns-clause-counts
returns-clause-counts c =
    let change = c.in_ok-change.change in
    if_ok c.apply.result
    (counts_made c.args.rows.now change.rows.now c.args.action.now change.action.now c.args.part.now change.day c.in_ok-change.ensures.rows c.in_ok-change.ensures.action (c.in_ok-change.ensures.day ∙ c.first.ensures.value) c.requires c.args.periods.now.days)
    c.apply.ensures.counts
