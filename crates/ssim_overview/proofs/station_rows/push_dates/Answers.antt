-- One day more: the week says what is said on it.
use Rattle.std.proofs.Common.{◌∙◌, Option, ap, map}
use Rattle.std.specs.Option.{option_to_list}
use Rattle.ssim_values.specs.Variation.{Offset}
use Rattle.ssim_overview.specs.internal.SaidRows.{by_week, grown}
use Rattle.ssim_overview.proofs.SaidDays.{week_at}
use Rattle.ssim_overview.proofs.SaidSteps.{rows_more}
use Rattle.ssim_overview.proofs.station_rows.push_dates.Goals as goal

pub loop-day-preserved : goal.loop-day-preserved
loop-day-preserved c =
    let day = c.loop-day.day in
    rows_more c.args.station (by_week c.args.week.now c.args.from) c.args.from day
    c.args.rows.now.items c.loop-day.rows.items c.push_said.new.rows.items c.loop-day.auto.day c.loop-day.invariant
    (c.in_ok-push_said.ensures
    ∙ ap (λ (v : Option Offset). grown c.args.station c.loop-day.rows.items (map (λ w. (day, w)) (option_to_list v)))
    (week_at c.args.week.now c.args.from c.args.end day c.index-week-day.result c.loop-day.auto.day
    c.loop-day-test.true c.requires.week c.index-week-day.is))
