-- The month of the day has the day of its text.
use Rattle.std.proofs.Common.{arith}
use Rattle.ssim_columns.proofs.lemmas.Months.{month_of_day}
use Rattle.ssim_columns.proofs.latest_months.Month.of.Goals as goal

pub overflow_sub-result : goal.overflow_sub-result
overflow_sub-result c =
    let read = c.in_ok-in_month.ensures.some in
    let is = month_of_day c.args.text c.in_ok-in_month.in_month c.args.day read.0 read.1 c.requires in
    omega (arith, is.to, c.number.ensures.value)

pub invariant_of-result : goal.invariant_of-result
invariant_of-result c =
    let read = c.in_ok-in_month.ensures.some in
    let is = month_of_day c.args.text c.in_ok-in_month.in_month c.args.day read.0 read.1 c.requires in
    record { is_month = rw c.number.ensures.value is.month }
