-- What is pushed, with the cover from the next day that has the value on, is always the whole
-- cover.
use Rattle.std.proofs.Common.{◌≡◌, ◌-◌, ◌++◌, map, length, append-nil, ap, sym, ◌∙◌, arith, rules}
use Rattle.ssim_values.specs.Calendar.{slot}
use Rattle.ssim_periods.specs.Cover.{first_where, break_after, period_at}
use Rattle.ssim_periods.specs.Pieces.{has_value}
use Rattle.ssim_periods.proofs.DayLemmas.{length-each_day}
use Rattle.ssim_periods.proofs.CoverSteps.{cover_at, cover_from-at, cover_at-end, first-in_none, some-digit, first_where-low, first_where-high, first_where-found, step, step-last, step-period, step-rest}
use Rattle.ssim_periods.proofs.range_rows.RangeRows.push_cover.Goals as goal

pub loop-first-init : goal.loop-first-init
loop-first-init g c =
    let days = c.args.self.now.days in let v = c.args.label.now in let is_in = has_value g.V.Value.alike days c.args.value.now in
    let len : length days ≡ 36525 = sym (ap (λ s. length s.days) c.self.view_is) ∙ length-each_day _ in
    let first = c.first_unlike-first.result in
    let start : length days - 0 ≡ length days = omega arith in
    let found : first ≡ first_where is_in 0 (length days - 0) = c.first_unlike-first.ensures ∙ first-in_none is_in 0 (length days - 0) in
    let high = first_where-high is_in 0 (length days - 0) in
    record {
      to = omega arith;
      own = λ lt. ap is_in found ∙ first_where-found is_in 0 (length days - 0) (omega arith);
      rest = ap (λ a. c.args.pieces.now.items ++ map (λ period. (period, v)) (cover_at is_in (length days) a)) found
          ∙ ap (λ ps. c.args.pieces.now.items ++ map (λ period. (period, v)) ps) (sym (cover_from-at (length days) is_in 0 (length days) (omega arith)));
    }

pub weekdays_from-days-requires : goal.weekdays_from-days-requires
weekdays_from-days-requires g c =
    let len : length c.args.self.now.days ≡ 36525 = sym (ap (λ s. length s.days) c.self.view_is) ∙ length-each_day _ in
    (search rules, (c.loop-first-test.true, len))

pub last_in-requires-clause-ordered : goal.last_in-requires-clause-ordered
last_in-requires-clause-ordered g c =
    let days = c.args.self.now.days in let is_in = has_value g.V.Value.alike days c.args.value.now in let first = c.loop-first.first in
    let len : length days ≡ 36525 = sym (ap (λ s. length s.days) c.self.view_is) ∙ length-each_day _ in let test = c.loop-first-test.true in
    (step is_in (length days) first c.weekdays_from-days.result c.break_after-after.result (omega arith) (c.loop-first.invariant.own test) c.weekdays_from-days.ensures c.break_after-after.ensures).gt

pub last_in-requires-clause-own : goal.last_in-requires-clause-own
last_in-requires-clause-own g c =
    let days = c.args.self.now.days in let is_in = has_value g.V.Value.alike days c.args.value.now in let first = c.loop-first.first in
    let len : length days ≡ 36525 = sym (ap (λ s. length s.days) c.self.view_is) ∙ length-each_day _ in let test = c.loop-first-test.true in
    (step is_in (length days) first c.weekdays_from-days.result c.break_after-after.result (omega arith) (c.loop-first.invariant.own test) c.weekdays_from-days.ensures c.break_after-after.ensures).own

pub period_of-period-requires-clause-ordered : goal.period_of-period-requires-clause-ordered
period_of-period-requires-clause-ordered g c =
    let days = c.args.self.now.days in let is_in = has_value g.V.Value.alike days c.args.value.now in let first = c.loop-first.first in
    let len : length days ≡ 36525 = sym (ap (λ s. length s.days) c.self.view_is) ∙ length-each_day _ in let test = c.loop-first-test.true in let own = c.loop-first.invariant.own test in
    let s = step is_in (length days) first c.weekdays_from-days.result c.break_after-after.result (omega arith) own c.weekdays_from-days.ensures c.break_after-after.ensures in
    (step-last is_in (length days) first c.weekdays_from-days.result c.break_after-after.result c.last_in.result s own c.last_in.ensures).1

pub period_of-period-requires-clause-in_calendar : goal.period_of-period-requires-clause-in_calendar
period_of-period-requires-clause-in_calendar g c =
    let days = c.args.self.now.days in let is_in = has_value g.V.Value.alike days c.args.value.now in let first = c.loop-first.first in
    let len : length days ≡ 36525 = sym (ap (λ s. length s.days) c.self.view_is) ∙ length-each_day _ in let test = c.loop-first-test.true in let own = c.loop-first.invariant.own test in
    let s = step is_in (length days) first c.weekdays_from-days.result c.break_after-after.result (omega arith) own c.weekdays_from-days.ensures c.break_after-after.ensures in
    let lt = (step-last is_in (length days) first c.weekdays_from-days.result c.break_after-after.result c.last_in.result s own c.last_in.ensures).2 in let le = s.le in
    omega arith

pub period_of-period-requires-clause-mask : goal.period_of-period-requires-clause-mask
period_of-period-requires-clause-mask g c =
    let days = c.args.self.now.days in let is_in = has_value g.V.Value.alike days c.args.value.now in let first = c.loop-first.first in
    let len : length days ≡ 36525 = sym (ap (λ s. length s.days) c.self.view_is) ∙ length-each_day _ in let test = c.loop-first-test.true in let own = c.loop-first.invariant.own test in
    let s = step is_in (length days) first c.weekdays_from-days.result c.break_after-after.result (omega arith) own c.weekdays_from-days.ensures c.break_after-after.ensures in
    record { seven = ap length c.weekdays_from-days.ensures; some = some-digit c.weekdays_from-days.result (slot first) 49 s.own }

pub first_unlike-first-requires-in-loop-first : goal.first_unlike-first-requires-in-loop-first
first_unlike-first-requires-in-loop-first g c =
    let days = c.args.self.now.days in let is_in = has_value g.V.Value.alike days c.args.value.now in let first = c.loop-first.first in
    let len : length days ≡ 36525 = sym (ap (λ s. length s.days) c.self.view_is) ∙ length-each_day _ in let test = c.loop-first-test.true in let own = c.loop-first.invariant.own test in
    let le = (step is_in (length days) first c.weekdays_from-days.result c.break_after-after.result (omega arith) own c.weekdays_from-days.ensures c.break_after-after.ensures).le in
    (search rules, omega arith)

pub loop-first-smaller : goal.loop-first-smaller
loop-first-smaller g c =
    let days = c.args.self.now.days in let is_in = has_value g.V.Value.alike days c.args.value.now in let first = c.loop-first.first in let after = c.break_after-after.result in
    let len : length days ≡ 36525 = sym (ap (λ s. length s.days) c.self.view_is) ∙ length-each_day _ in let test = c.loop-first-test.true in let own = c.loop-first.invariant.own test in
    let s = step is_in (length days) first c.weekdays_from-days.result after (omega arith) own c.weekdays_from-days.ensures c.break_after-after.ensures in
    let gt = s.gt in
    let found : c.first_unlike-first-in-loop-first.result ≡ first_where is_in after (length days - after) = c.first_unlike-first-in-loop-first.ensures ∙ first-in_none is_in after (length days - after) in
    let low = first_where-low is_in after (length days - after) in
    omega arith

pub loop-first-preserved : goal.loop-first-preserved
loop-first-preserved g c =
    let days = c.args.self.now.days in let v = c.args.label.now in let is_in = has_value g.V.Value.alike days c.args.value.now in let first = c.loop-first.first in let after = c.break_after-after.result in
    let mask = c.weekdays_from-days.result in let last = c.last_in.result in let items = c.loop-first.pieces.items in
    let len : length days ≡ 36525 = sym (ap (λ s. length s.days) c.self.view_is) ∙ length-each_day _ in let test = c.loop-first-test.true in let own = c.loop-first.invariant.own test in
    let s = step is_in (length days) first mask after (omega arith) own c.weekdays_from-days.ensures c.break_after-after.ensures in
    let l = step-last is_in (length days) first mask after last s own c.last_in.ensures in
    let e = c.period_of-period.ensures in
    let period : c.period_of-period.result ≡ period_at is_in first (break_after is_in first (length days)) = step-period is_in (length days) first mask after last c.period_of-period.result s own c.weekdays_from-days.ensures l.0 e.first e.last e.days in
    let next = c.first_unlike-first-in-loop-first.result in
    let found : next ≡ first_where is_in after (length days - after) = c.first_unlike-first-in-loop-first.ensures ∙ first-in_none is_in after (length days - after) in
    let high = first_where-high is_in after (length days - after) in let le = s.le in
    record {
      to = omega arith;
      own = λ lt. ap is_in found ∙ first_where-found is_in after (length days - after) (omega arith);
      rest = step-rest is_in (length days) first after next items _ v c.in_ok-copy.field-0 c.period_of-period.result (omega arith) s.after_is found period c.in_ok-copy.ensures c.in_ok-push.ensures.items ∙ c.loop-first.invariant.rest;
    }

pub returns : goal.returns
returns g c =
    let days = c.args.self.now.days in let v = c.args.label.now in let is_in = has_value g.V.Value.alike days c.args.value.now in
    let len : length days ≡ 36525 = sym (ap (λ s. length s.days) c.self.view_is) ∙ length-each_day _ in let done = c.loop-first-test.false in
    sym (append-nil c.loop-first.pieces.items) ∙ ap (λ ps. c.loop-first.pieces.items ++ map (λ period. (period, v)) ps) (sym (cover_at-end is_in (length days) c.loop-first.first (omega arith))) ∙ c.loop-first.invariant.rest
