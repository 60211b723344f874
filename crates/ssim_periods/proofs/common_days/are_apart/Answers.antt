-- A day of the one is before the other begins, or after it ends.
use Rattle.std.proofs.Common.{not, ap, sym, arith}
use Rattle.ssim_periods.proofs.CommonDayLemmas.{meet-after, meet-before, meet-nowhere}
use Rattle.ssim_periods.proofs.common_days.are_apart.Goals as goal

pub returns-then-number-clause-value : goal.returns-then-number-clause-value
returns-then-number-clause-value c =
    let last = c.last.ensures.value in let first = c.first.ensures.value in
    let one = c.number.ensures.value in let other = c.number-2.ensures.value in let test = c.if-number.true in
    sym (ap not (meet-before c.args.one.now c.args.other.now (omega arith)))

pub returns-then-number-clause-none : goal.returns-then-number-clause-none
returns-then-number-clause-none c = λ t.
    let last = c.last.ensures.value in let first = c.first.ensures.value in
    let one = c.number.ensures.value in let other = c.number-2.ensures.value in let test = c.if-number.true in
    meet-nowhere c.args.one.now c.args.other.now c.last.ensures.period.in_calendar (meet-before c.args.one.now c.args.other.now (omega arith))

pub returns-then-number-2-clause-value : goal.returns-then-number-2-clause-value
returns-then-number-2-clause-value c =
    let last = c.last-2.ensures.value in let first = c.first-2.ensures.value in
    let one = c.number-3.ensures.value in let other = c.number-4.ensures.value in let test = c.if-number-2.true in
    sym (ap not (meet-after c.args.one.now c.args.other.now (omega arith)))

pub returns-then-number-2-clause-none : goal.returns-then-number-2-clause-none
returns-then-number-2-clause-none c = λ t.
    let last = c.last-2.ensures.value in let first = c.first-2.ensures.value in
    let one = c.number-3.ensures.value in let other = c.number-4.ensures.value in let test = c.if-number-2.true in
    meet-nowhere c.args.one.now c.args.other.now c.last.ensures.period.in_calendar (meet-after c.args.one.now c.args.other.now (omega arith))

pub returns-clause-value : goal.returns-clause-value
returns-clause-value c = ap not c.meets.ensures.value
