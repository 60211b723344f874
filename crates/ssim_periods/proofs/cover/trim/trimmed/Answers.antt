-- The first and the last day that the period holds, and the weekdays between them.
use Rattle.std.proofs.Common.{◌≡◌, ◌+◌, ◌∙◌, arith}
use Rattle.ssim_periods.proofs.TrimLemmas.{AreOwn, First, Trim, first-of, trim-none, trim-some}
use Rattle.ssim_periods.proofs.TrimLemmas.{trim-whole}
use Rattle.ssim_periods.proofs.cover.trim.trimmed.Goals.{After-first_in-first}
use Rattle.ssim_periods.proofs.cover.trim.trimmed.Goals.{After-weekdays_before-days}
use Rattle.ssim_periods.proofs.cover.trim.trimmed.Goals as goal

pub returns-then-is_trimmed-clause-some : goal.returns-then-is_trimmed-clause-some
returns-then-is_trimmed-clause-some c =
    let e = c.is_trimmed.ensures in let yes = c.if-is_trimmed.true in
    trim-whole c.args.period.now (e.week yes) (e.valid yes).in_calendar (e.valid yes).mask.seven (e.first yes) (e.last yes)

-- the weekdays and the bounds are those of the period
own : (c : After-first_in-first)
    → AreOwn c.args.period.now c.days-mask.result c.number-from.result (c.number.result + 1)
own c =
    let l = c.number.ensures.value in let l' = c.last.ensures.value in
    record {
      days = c.days-mask.ensures.value ∙ c.mask.ensures.value;
      starts = c.number-from.ensures.value ∙ c.first.ensures.value;
      ends = omega arith;
      ordered = c.first.ensures.period.ordered;
    }

-- the first day that the period holds, if there is one
first : (c : After-first_in-first) → (c.first_in-first.result ≡ c.number.result + 1 → ⊥)
    → First c.args.period.now c.days-mask.result c.first_in-first.result (c.number.result + 1)
first c some =
    first-of c.args.period.now c.days-mask.result c.number-from.result (c.number.result + 1)
    c.first_in-first.result (own c) c.first_in-first.ensures some

-- the period from this day to the last one, on the weekdays between them
trim : (c : After-weekdays_before-days)
    → AreOwn c.args.period.now c.days-mask.result c.number-from.result (c.number.result + 1)
    → First c.args.period.now c.days-mask.result c.first_in-first.result (c.number.result + 1)
    → Trim c.args.period.now c.first_in-first.result c.last_in-last.result
    c.weekdays_before-days.result
trim c own first =
    let bound = c.number.ensures.bound in
    let l' = c.last.ensures.value in
    trim-some c.args.period.now c.days-mask.result c.number-from.result (c.number.result + 1)
    c.first_in-first.result c.last_in-last.result c.weekdays_before-days.result own (omega arith)
    first c.last_in-last.ensures c.weekdays_before-days.ensures

pub returns-then-first-end-clause-none : goal.returns-then-first-end-clause-none
returns-then-first-end-clause-none c =
    let at = (goal.at.returns-then-first-end-clause-none c).After-first_in-first in
    trim-none c.args.period.now c.days-mask.result c.number-from.result (c.number.result + 1)
    c.first_in-first.result (own at)
    c.first_in-first.ensures c.if-first-end.true

pub last_in-last-requires-clause-ordered : goal.last_in-last-requires-clause-ordered
last_in-last-requires-clause-ordered c =
    let at = (goal.at.last_in-last-requires-clause-ordered c).After-first_in-first in
    (first at c.if-first-end.false).lt

pub last_in-last-requires-clause-own : goal.last_in-last-requires-clause-own
last_in-last-requires-clause-own c =
    let at = (goal.at.last_in-last-requires-clause-own c).After-first_in-first in
    (first at c.if-first-end.false).on

pub weekdays_before-days-requires : goal.weekdays_before-days-requires
weekdays_before-days-requires c =
    let at = (goal.at.weekdays_before-days-requires c).After-first_in-first in
    let lt = (first at c.if-first-end.false).lt in
    let ends = (own at).ends in
    let bound = c.number.ensures.bound in
    record { in_calendar = omega arith }

pub period_of-requires : goal.period_of-requires
period_of-requires c =
    let at = goal.at.period_of-requires c in
    let from = at.After-first_in-first in
    let t = trim at.After-weekdays_before-days (own from) (first from c.if-first-end.false) in
    let high = t.high in
    let bound = c.number.ensures.bound in
    let l = c.number.ensures.value in let l' = c.last.ensures.value in
    record { ordered = t.ordered; in_calendar = omega arith; mask = t.mask }

pub returns-clause-some : goal.returns-clause-some
returns-clause-some c =
    let at = goal.at.returns-clause-some c in
    let from = at.After-first_in-first in
    let t = trim at.After-weekdays_before-days (own from) (first from c.if-first-end.false) in
    t.cover_is c.period_of.result c.period_of.ensures.first c.period_of.ensures.last
    c.period_of.ensures.days
