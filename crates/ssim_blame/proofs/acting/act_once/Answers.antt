-- One part more.
use Rattle.std.proofs.Common.{◌≡◌, ◌∙◌, ◌+◌, ◌≤◌, ℕ, ap, arith}
use Rattle.ssim_periods.specs.Calendar.{holds}
use Rattle.ssim_periods.specs.Days.{changed_on}
use Rattle.ssim_schedule.specs.internal.ActionParts.{before as before_day}
use Rattle.ssim_schedule.proofs.Acts.{parts_come}
use Rattle.ssim_blame.specs.internal.Made.{acted}
use Rattle.ssim_blame.proofs.Acted.{days_changed}
use Rattle.ssim_blame.proofs.acting.act_once.Goals as goal

pub loop-from-preserved : goal.loop-from-preserved
loop-from-preserved c =
    let rows = c.args.acting.now.rows.now in let action = c.args.action.now in
    let name = c.args.name.now in let period = c.args.period.now in
    let l = c.loop-from in let part = c.next_part-part.result in
    let next = c.number.result + 1 in
    let end : c.number.result ≡ part.last =
    c.number.ensures.value ∙ c.last-in-loop-from.ensures.value in
    let last : c.number-last.result ≡ period.last =
    c.number-last.ensures.value ∙ c.last.ensures.value in
    let first : part.first ≡ l.from = c.next_part-part.ensures.first in
    let within : part.last ≤ period.last = c.next_part-part.ensures.last in
    let ordered : part.first ≤ part.last = c.first-day.ensures.period.ordered in
    let from : period.first ≤ l.from = l.invariant.from in
    record {
      from = omega (arith, end, first, ordered, from);
      to = omega (arith, end, last, within);
      acted = λ before is.
          days_changed rows action name part (before_day period l.from) (before_day period next)
          (parts_come period part l.from next first (omega (arith, end))
          c.next_part-part.ensures.days from (omega (arith, end, first, ordered))
          (omega (arith, end, within))) c.next_part-part.ensures.uniform before l.days.days
          c.replace.new.self.days (l.invariant.acted before is)
          (c.in_ok-replace.ensures.days
          ∙ ap (λ (day : ℕ). changed_on (holds part) (acted rows action day name) 0 l.days.days)
          c.first-day.ensures.value);
    }
