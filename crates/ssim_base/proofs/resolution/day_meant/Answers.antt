-- A date without a year is the next that the calendar has.
use Rattle.std.proofs.Common.{ℕ, ◌≤◌, ◌<◌, Option, Some, None, sym, subst}
use Rattle.std.specs.Prelude.{IfSome, IfNone}
use Rattle.ssim_values.specs.Calendar.{HasDayMonth}
use Rattle.ssim_values.specs.DayMonth.{MonthDay}
use Rattle.ssim_text.specs.declared.dates.GivenDate.{GivenDate}
use Rattle.ssim_base.specs.Resolve.{IsNext, Means, MeansNone}
use Rattle.ssim_base.proofs.resolution.day_meant.Goals as goal

pub next-is : (o : Option ℕ) (from : ℕ) (date : MonthDay) → IfSome o (λ n. (from ≤ n) × HasDayMonth n date.month date.day)
    → IfSome o (λ n. (k : ℕ) → from ≤ k → k < n → HasDayMonth k date.month date.day → ⊥) → IfSome o (IsNext from date)
next-is None from date some least = tt
next-is (Some n) from date some least = record { from_on = some.0; has = some.1; least = least }

pub returns-in-Yearless-clause-some : goal.returns-in-Yearless-clause-some
returns-in-Yearless-clause-some c =
    subst (λ (d : GivenDate). IfSome c.next_on_or_after.result (Means c.args.from d)) (sym c.in-Yearless.is)
    (next-is c.next_on_or_after.result c.args.from c.in-Yearless.date c.next_on_or_after.ensures.some c.next_on_or_after.ensures.least)

pub returns-in-Yearless-clause-none : goal.returns-in-Yearless-clause-none
returns-in-Yearless-clause-none c =
    subst (λ (d : GivenDate). IfNone c.next_on_or_after.result (MeansNone c.args.from d)) (sym c.in-Yearless.is) c.next_on_or_after.ensures.none
