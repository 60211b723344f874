use Rattle.std.proofs.Common.{◌≡◌, ◌+◌, ◌-◌, ℕ, false, slice_index_or, ap, sym, ◌∙◌, arith}
use Rattle.ssim_values.specs.Calendar.{slot}
use Rattle.ssim_periods.proofs.CoverLemmas.{first_where-is, first_where-none}
use Rattle.ssim_periods.proofs.cover.trim.first_in.Goals as goal

pub returns-then-days-weekday : goal.returns-then-days-weekday
returns-then-days-weekday c =
    let test = λ (n : ℕ). slice_index_or c.args.days.now (slot n) false in
    let from = c.loop-day.auto.day in let lt = c.loop-day-test.true in
    sym (first_where-is test c.args.from (c.args.to - c.args.from) c.loop-day.day from (omega arith) (ap (λ (w : ℕ). slice_index_or c.args.days.now w false) (sym c.weekday_of-weekday.ensures.value) ∙ c.if-days-weekday.true) c.loop-day.invariant)

pub returns : goal.returns
returns c =
    let test = λ (n : ℕ). slice_index_or c.args.days.now (slot n) false in
    let o = c.requires.ordered in let k = c.args.to - c.args.from in let done = c.loop-day-test.false in
    let whole : c.args.from + k ≡ c.args.to = omega arith in
    sym (first_where-none test c.args.from k (λ m a b. c.loop-day.invariant m a (omega arith)) ∙ whole)
