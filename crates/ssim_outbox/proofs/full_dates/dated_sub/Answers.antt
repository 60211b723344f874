-- Each part of the text reads again.
use Rattle.std.proofs.Common.{◌<◌, arith, subst, sym}
use Rattle.ssim_values.specs.Calendar.{day_limit}
use Rattle.ssim_values.specs.DayMask.{IsMask}
use Rattle.ssim_values.specs.Designator.{designator_text}
use Rattle.ssim_outbox.proofs.Alone.{alone}
use Rattle.ssim_outbox.proofs.full_dates.dated_sub.Goals as goal

pub returns-clause-alone : goal.returns-clause-alone
returns-clause-alone c =
    let d = c.args.designator in
    let p = c.first.ensures.period in
    let ordered = p.ordered in
    let limit = p.in_calendar in
    let low : c.first.result < day_limit = omega (arith, ordered, limit, c.first.ensures.value) in
    let high : c.last.result < day_limit = omega (arith, limit, c.last.ensures.value) in
    alone c.args.heading.now c.text.result.now d (designator_text d) c.first.result c.last.result
    c.mask.result c.args.action c.requires.ssm c.text.ensures.spells c.spells.ensures low high
    (subst IsMask (sym c.mask.ensures.value) p.mask) c.requires.said
