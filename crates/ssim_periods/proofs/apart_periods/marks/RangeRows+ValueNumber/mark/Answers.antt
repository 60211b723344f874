-- The days of an appended period are those of the period.
use Rattle.std.proofs.Common.{if◌then◌else◌, ap, sym, ◌∙◌}
use Rattle.ssim_periods.specs.internal.Count.{is_within}
use Rattle.ssim_periods.specs.Days.{changed_on}
use Rattle.ssim_periods.specs.internal.Rows.{value_on}
use Rattle.ssim_periods.proofs.ApplyLemmas.{within-holds}
use Rattle.ssim_periods.proofs.DayLemmas.{each_day-same, changed_on-each_day}
use Rattle.ssim_periods.proofs.apart_periods.marks.RangeRows+ValueNumber.mark.Goals as goal

pub returns : goal.returns
returns c =
    let before = c.self.inside.before in let cuts = c.self.inside.cuts.items in let rows = c.self.inside.rows.items in
    let first = c.number-first.result in let last = c.number-last.result in let mask = c.days-mask.result in
    each_day-same (value_on 0 before c.append.new.cuts.items c.append.new.rows.items) (λ n. if is_within first last mask n then 1 else value_on 0 before cuts rows n) (λ n l. c.in_ok-append.ensures.values n)
    ∙ sym (changed_on-each_day (is_within first last mask) (λ _. 1) (value_on 0 before cuts rows))
    ∙ ap (changed_on (is_within first last mask) (λ _. 1) 0) (ap (λ s. s.days) c.self.view_is)
    ∙ within-holds (λ s. changed_on s (λ _. 1) 0 c.args.self.now.days) c.args.period.now first last mask (c.number-first.ensures.value ∙ c.first.ensures.value) (c.number-last.ensures.value ∙ c.last.ensures.value) (c.days-mask.ensures.value ∙ c.mask.ensures.value)
