-- The plan is one between the timetables of the desks, since the schedules have these.
use Rattle.std.proofs.Common.{◌∙◌, ap}
use Rattle.ssim_base.specs.BaseSeen.{BaseSeen}
use Rattle.ssim_schedule.specs.clauses.Schedule.{days_in}
use Rattle.ssim_outbox.proofs.Joined.{plan_of_days}
use Rattle.ssim_outbox.proofs.plan_subs.plan_between.Goals as goal

pub returns : goal.returns
returns c =
    let plan = c.in_ok-plan.plan in
    plan_of_days c.args.from.now c.args.to.now c.rows.result.now (days_in c.in_ok-old.old) (days_in c.in_ok-new.new)
    (days_in plan.after) plan.subs.items plan.unsaid.items
    (c.rows.ensures ∙ ap (λ (b : BaseSeen). b.rows) c.base.ensures) c.in_ok-plan.ensures.exist
    c.in_ok-old.ensures c.in_ok-new.ensures c.in_ok-plan.ensures.leave
    c.in_ok-plan.ensures.published c.in_ok-plan.ensures.unsaid c.in_ok-plan.ensures.said
    c.in_ok-plan.ensures.differing c.in_ok-plan.ensures.acting c.in_ok-plan.ensures.ordered
    c.in_ok-plan.ensures.apart
