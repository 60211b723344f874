-- Each day of the period is looked for.
use Rattle.std.proofs.Common.{◌≡◌, ℕ, ◌≤◌, ◌+◌, true, false, slice_index_or, ap, sym, subst, ◌∙◌, arith}
use Rattle.ssim_base.proofs.DateLemmas.{Met, met-day, met-last, met-none}
use Rattle.ssim_periods.proofs.CommonDayLemmas.{holds-between}
use Rattle.ssim_base.proofs.leg_table.day_set.DaySet.meets.Goals as goal
use Rattle.ssim_base.proofs.leg_table.day_set.DaySet.meets.Goals.{then-weekdays-weekday, else-weekdays-weekday}

pub loop-day-preserved : goal.loop-day-preserved
loop-day-preserved c =
    let p = c.args.period.now in
    let day = c.loop-day.day in
    let words = c.args.self.now.words.items in
    let from : p.first ≤ day = omega arith in
    let to : day ≤ p.last = omega arith in
    let days = c.days-weekdays.ensures.value ∙ c.mask.ensures.value in
    let weekday = ap (λ (w : ℕ). slice_index_or c.days-weekdays.result w false) (sym c.weekday_of-weekday.ensures.value) in
    elim c.if-weekdays-weekday.branch [
      | then-weekdays-weekday w ↦
          let is = holds-between p c.days-weekdays.result day true from to days (weekday ∙ w.if-weekdays-weekday.true) in
          rw (w.met-is) (met-day p day words c.loop-day.met w.has-met.result is (omega arith) w.has-met.ensures c.loop-day.invariant)
      | else-weekdays-weekday w ↦
          let is = holds-between p c.days-weekdays.result day false from to days (weekday ∙ w.if-weekdays-weekday.false) in
          rw (w.met-is) (met-none p day words c.loop-day.met is c.loop-day.invariant)
    ]

pub returns : goal.returns
returns c =
    let p = c.args.period.now in
    let words = c.args.self.now.words.items in
    let end : c.loop-day.day ≡ p.last + 1 = omega arith in
    let done = subst (λ (n : ℕ). Met p n words c.loop-day.met) end c.loop-day.invariant in
    met-last p words c.loop-day.met done
