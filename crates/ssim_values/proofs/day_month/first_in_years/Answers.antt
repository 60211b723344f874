use Rattle.std.proofs.Common.{◌+◌, ap, refl, arith, inl, inr}
use Rattle.std.proofs.lemmas.Bool.{cases_order}
use Rattle.ssim_values.specs.Calendar.{day_number, IsDate}
use Rattle.ssim_values.proofs.CalendarLemmas.{day_number-lt_year}
use Rattle.ssim_values.proofs.day_month.first_in_years.Goals as goal

pub loop-year-init : goal.loop-year-init
loop-year-init c = λ y lt is.
    omega (arith, c.year_month_day-first_year.ensures.number, day_number-lt_year y _ _ _ _ _ is c.year_month_day-first_year.ensures.date lt)

pub returns-then-le-clause-least : goal.returns-then-le-clause-least
returns-then-le-clause-least c = λ k low high h.
    let here : IsDate (2000 + c.loop-year.year) c.args.month c.args.day = c.in-Some.ensures.some.0 refl in
    elim (cases_order h.year (2000 + c.loop-year.year)) [
      | inl same ↦ absurd (omega (arith, ap (λ y. day_number y c.args.month c.args.day) same, h.number, c.in-Some.ensures.value))
      | inr (inl lt) ↦ absurd (omega (arith, c.loop-year.invariant h.year lt h.is_date, h.number))
      | inr (inr gt) ↦ absurd (omega (arith, day_number-lt_year _ _ _ _ _ _ here h.is_date gt, h.number, c.in-Some.ensures.value))
    ]
