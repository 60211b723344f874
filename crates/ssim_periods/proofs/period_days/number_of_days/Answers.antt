-- One weekday more, and all of them.
use Rattle.std.proofs.Common.{◌≡◌, ◌∙◌, ◌+◌, ap, subst, arith}
use Rattle.ssim_periods.specs.internal.Count.{weigh}
use Rattle.ssim_periods.proofs.CountLemmas.{weigh-le, weigh-more}
use Rattle.ssim_periods.proofs.PeriodDays.{days-by-weekday, has}
use Rattle.ssim_periods.proofs.period_days.number_of_days.Goals as goal

pub overflow_add-count : goal.overflow_add-count
overflow_add-count c =
    let t = has c.days-days.result in let w = c.loop-weekday.weekday in
    let end = c.number.ensures.bound in
    let after = weigh-more t w (c.number.result + 1) in
    let few = weigh-le t (w + 1) (c.number.result + 1) (omega arith) in
    let so_far = c.loop-weekday.invariant in let more = c.days_on-count.ensures in
    omega arith

pub loop-weekday-preserved : goal.loop-weekday-preserved
loop-weekday-preserved c =
    let t = has c.days-days.result in let w = c.loop-weekday.weekday in
    let before = weigh-more t w c.number-first.result in
    let after = weigh-more t w (c.number.result + 1) in
    let so_far = c.loop-weekday.invariant in let more = c.days_on-count.ensures in
    omega arith

pub returns : goal.returns
returns c =
    let t = has c.days-days.result in
    let period = c.first.ensures.period in
    let last = c.number.ensures.value ∙ c.last.ensures.value in
    let seven : c.loop-weekday.weekday ≡ 7 = omega arith in
    days-by-weekday c.args.period.now c.loop-weekday.count c.number-first.result (c.number.result + 1) c.days-days.result
    (c.number-first.ensures.value ∙ c.first.ensures.value) (ap (λ n. n + 1) last) (c.days-days.ensures.value ∙ c.mask.ensures.value)
    period.ordered period.in_calendar
    (subst (λ w. c.loop-weekday.count + weigh t w c.number-first.result ≡ weigh t w (c.number.result + 1)) seven c.loop-weekday.invariant)
