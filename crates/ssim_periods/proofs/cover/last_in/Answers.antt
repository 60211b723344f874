use Rattle.std.proofs.Common.{◌-◌, ◌∙◌, ℕ, false, slice_index_or, ap, sym, arith}
use Rattle.ssim_values.specs.Calendar.{slot}
use Rattle.ssim_periods.proofs.CoverLemmas.{last_where-at}
use Rattle.ssim_periods.proofs.cover.last_in.Goals as goal

pub returns-then-days-weekday : goal.returns-then-days-weekday
returns-then-days-weekday c =
    let i = c.loop-day.invariant in let from = i.from in let to = i.to in
    sym (last_where-at (λ n. slice_index_or c.args.days.now (slot n) false) c.args.first (c.args.after - c.args.first) c.loop-day.day from (omega arith) (ap (λ (w : ℕ). slice_index_or c.args.days.now w false) (sym c.weekday_of-weekday.ensures.value) ∙ c.if-days-weekday.true) (λ m a b. i.later m a (omega arith)))

pub returns : goal.returns
returns c =
    let i = c.loop-day.invariant in let from = i.from in let to = i.to in let test = c.loop-day-test.false in let o = c.requires.ordered in
    sym (last_where-at (λ n. slice_index_or c.args.days.now (slot n) false) c.args.first (c.args.after - c.args.first) c.args.first (omega arith) (omega arith) c.requires.own (λ m a b. i.later m (omega arith) (omega arith)))
