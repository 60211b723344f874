-- Each day of the period is added once.
use Rattle.std.proofs.Common.{◌≡◌, ℕ, ◌≤◌, ◌+◌, true, false, slice_index_or, ap, sym, subst, ◌∙◌, arith}
use Rattle.ssim_base.proofs.DateLemmas.{Added, added-day, added-last, added-none}
use Rattle.ssim_periods.proofs.CommonDayLemmas.{holds-between}
use Rattle.ssim_base.proofs.leg_table.day_set.DaySet.add_period.Goals as goal
use Rattle.ssim_base.proofs.leg_table.day_set.DaySet.add_period.Goals.{then-weekdays-weekday, else-weekdays-weekday}

pub loop-day-preserved : goal.loop-day-preserved
loop-day-preserved c =
    let p = c.args.period.now in
    let day = c.loop-day.day in
    let from : p.first ≤ day = omega arith in
    let to : day ≤ p.last = omega arith in
    let days = c.days-weekdays.ensures.value ∙ c.mask.ensures.value in
    let weekday = ap (λ (w : ℕ). slice_index_or c.days-weekdays.result w false) (sym c.weekday_of-weekday.ensures.value) in
    elim c.if-weekdays-weekday.branch [
      | then-weekdays-weekday w ↦
          let is = holds-between p c.days-weekdays.result day true from to days (weekday ∙ w.if-weekdays-weekday.true) in
          rw (w.self-is, w.met-is)
          (added-day p day c.args.self.now.words.items c.loop-day.self.words.items w.add-met.new.self.words.items c.loop-day.met w.add-met.result is (omega arith)
          w.add-met.ensures.days w.add-met.ensures.met c.loop-day.invariant)
      | else-weekdays-weekday w ↦
          let is = holds-between p c.days-weekdays.result day false from to days (weekday ∙ w.if-weekdays-weekday.false) in
          rw (w.self-is, w.met-is) (added-none p day c.args.self.now.words.items c.loop-day.self.words.items c.loop-day.met is c.loop-day.invariant)
    ]

pub returns-clause-met : goal.returns-clause-met
returns-clause-met c =
    let end : c.loop-day.day ≡ c.args.period.now.last + 1 = omega arith in
    let done = subst (λ (n : ℕ). Added c.args.period.now n c.args.self.now.words.items c.loop-day.self.words.items c.loop-day.met) end c.loop-day.invariant in
    (added-last c.args.period.now c.args.self.now.words.items c.loop-day.self.words.items c.loop-day.met done).1
