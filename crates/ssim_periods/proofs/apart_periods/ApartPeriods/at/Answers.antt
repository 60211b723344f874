use Rattle.std.proofs.Common.{Some, slice_get, ap, sym, ◌∙◌, arith}
use Rattle.ssim_periods.specs.internal.Apart.{value_in}
use Rattle.ssim_periods.proofs.ApartLemmas.{index-week}
use Rattle.ssim_periods.proofs.DayLemmas.{get-each_day}
use Rattle.ssim_periods.proofs.apart_periods.ApartPeriods.at.Goals as goal

pub returns : goal.returns
returns g c =
    let e = g.V.Value.nothing in let xs = c.self.inside.entries.items in let day = c.args.day in
    let same = c.number-number.ensures.value in let bound = c.number-number.ensures.bound in
    ap (λ ds. slice_get ds day) (sym (ap (λ s. s.days) c.self.view_is)) ∙ get-each_day (value_in e xs) day (omega arith)
    ∙ ap Some (sym (c.value_at.ensures
    ∙ ap (λ x. value_in x c.deref.result.now day) (index-week e c.index-self-weekday.result c.self.inside.empty _ c.self.invariant.0 (omega arith))
    ∙ ap (λ es. value_in e es day) c.deref.ensures.value))
