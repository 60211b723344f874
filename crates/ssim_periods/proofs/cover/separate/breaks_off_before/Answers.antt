-- The same weekday a week after the last day, or the first day that was found, is between the two.
use Rattle.std.proofs.Common.{◌≡◌, ℕ, ◌+◌, ◌-◌, ◌<◌, false, true, slice_index_or, ap, sym, ◌∙◌, arith}
use Rattle.std.proofs.lemmas.Bool.Decides.{nat_tests}
use Rattle.ssim_values.specs.Calendar.{slot}
use Rattle.ssim_periods.proofs.CoverSteps.{first_where-low, first_where-found}
use Rattle.ssim_periods.proofs.cover.separate.breaks_off_before.Goals as goal

pub returns-then-days-weekday_of-clause-between : goal.returns-then-days-weekday_of-clause-between
returns-then-days-weekday_of-clause-between c = λ t.
    let p = c.args.period.now in let end = c.number.result + 1 in
    let number = c.number.ensures.value in let last = c.last.ensures.value in let far = c.if-day-end-2.true in
    let weekday : c.weekday_of.result ≡ slot (end + 6) = c.weekday_of.ensures.value ∙ omega arith in
    let own : slice_index_or p.days (slot (end + 6)) false ≡ true =
    ap (λ ds. slice_index_or ds (slot (end + 6)) false) (sym (c.days-days.ensures.value ∙ c.mask.ensures.value))
    ∙ ap (λ w. slice_index_or c.days-days.result w false) (sym weekday) ∙ c.if-days-weekday_of.true in
    (end + 6, omega arith, omega arith, own)

pub returns-clause-between : goal.returns-clause-between
returns-clause-between c = λ t.
    let days = c.days-days.result in
    let test = λ (n : ℕ). slice_index_or days (slot n) false in
    let found = c.first_in.result in let end = c.number.result + 1 in let day = c.args.day in
    let before : found < day = grind (arith, nat_tests) in
    let is = c.first_in.ensures in
    let low = first_where-low test end (day - end) in
    let late = c.if-day-end.false in let number = c.number.ensures.value in let last = c.last.ensures.value in
    let on = first_where-found test end (day - end) (omega arith) in
    (found, omega arith, before, ap (λ ds. slice_index_or ds (slot found) false) (sym (c.days-days.ensures.value ∙ c.mask.ensures.value)) ∙ ap test is ∙ on)
