-- No day is in two periods whose masks have no weekday in common.
use Rattle.std.proofs.Common.{max, min, refl, ◌∙◌, arith}
use Rattle.ssim_values.specs.Calendar.{slot}
use Rattle.ssim_periods.proofs.CommonDayLemmas.{meet-none, meet-nowhere, no-weekday}
use Rattle.ssim_periods.proofs.common_days.are_of_other_weekdays.Goals as goal

pub returns-clause-value : goal.returns-clause-value
returns-clause-value c = λ h.
    let p = c.args.one.now in
    let q = c.args.other.now in
    meet-none p q c.days-days.result c.days-others.result (max p.first q.first) (min p.last q.last)
    (c.days-days.ensures.value ∙ c.mask.ensures.value) (c.days-others.ensures.value ∙ c.mask-2.ensures.value) refl refl
    (λ n from to. no-weekday c.days-days.result c.days-others.result (slot n) h (omega arith))

pub returns-clause-none : goal.returns-clause-none
returns-clause-none c = λ h. meet-nowhere c.args.one.now c.args.other.now (omega arith) (returns-clause-value c h)
