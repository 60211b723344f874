-- One day more.
use Rattle.std.proofs.Common.{◌∙◌, ap}
use Rattle.ssim_periods.specs.Pieces.{held_on}
use Rattle.ssim_overview.specs.SaidRows.{said}
use Rattle.ssim_overview.proofs.SaidSteps.{week_more}
use Rattle.ssim_overview.proofs.station_rows.week.Goals as goal

pub loop-day-preserved : goal.loop-day-preserved
loop-day-preserved c =
    week_more (λ n. said (held_on c.args.sayings.now n)) c.args.from c.loop-day.day c.loop-day.week.items _
    c.in_ok-said.field-0 c.loop-day.auto.day c.loop-day.invariant c.in_ok-push.ensures.items
    (c.in_ok-said.ensures ∙ ap said (c.deref.ensures.value ∙ c.in_ok-held.ensures))
