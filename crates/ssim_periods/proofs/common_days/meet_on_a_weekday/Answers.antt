-- Two periods have a date in common if a weekday of both has a day in both ranges.
use Rattle.std.proofs.Common.{◌≡◌, ℕ, ◌≤◌, true, false, slice_index_or, ap, refl, sym, ◌∙◌, arith}
use Rattle.ssim_periods.specs.Calendar.{holds}
use Rattle.ssim_periods.proofs.CommonDayLemmas.{common-date, holds-between, meet-none, meet-nowhere}
use Rattle.ssim_periods.proofs.common_days.meet_on_a_weekday.Goals as goal

pub returns-then-last-first-clause-value : goal.returns-then-last-first-clause-value
returns-then-last-first-clause-value c =
    sym (meet-none c.args.one.now c.args.other.now c.args.one.now.days c.args.other.now.days c.max-first.result c.min-last.result refl refl (omega arith) (omega arith)
    (λ n from to. let never : c.max-first.result ≤ c.min-last.result = omega arith in absurd (omega arith)))

pub returns-then-last-first-clause-none : goal.returns-then-last-first-clause-none
returns-then-last-first-clause-none c = λ none. meet-nowhere c.args.one.now c.args.other.now (omega arith) (sym (returns-then-last-first-clause-value c))

pub returns-then-first_on-last-clause-value : goal.returns-then-first_on-last-clause-value
returns-then-first_on-last-clause-value c =
    let p = c.args.one.now in
    let q = c.args.other.now in
    let day = c.first_on.result in
    let own = ap (λ (w : ℕ). slice_index_or c.days-days.result w false) c.first_on.ensures.weekday ∙ c.if-days-weekday.true in
    let its = ap (λ (w : ℕ). slice_index_or c.days-other_days.result w false) c.first_on.ensures.weekday ∙ c.if-other_days-weekday.true in
    let one : holds p day ≡ true = holds-between p c.days-days.result day true (omega arith) (omega arith) (c.days-days.ensures.value ∙ c.mask.ensures.value) own in
    let other : holds q day ≡ true = holds-between q c.days-other_days.result day true (omega arith) (omega arith) (c.days-other_days.ensures.value ∙ c.mask-2.ensures.value) its in
    sym (common-date (holds p) (holds q) day (omega arith) (rw (one, other) refl))

pub returns-clause-value : goal.returns-clause-value
returns-clause-value c =
    sym (meet-none c.args.one.now c.args.other.now c.days-days.result c.days-other_days.result c.max-first.result c.min-last.result
    (c.days-days.ensures.value ∙ c.mask.ensures.value) (c.days-other_days.ensures.value ∙ c.mask-2.ensures.value)
    (omega arith) (omega arith)
    (λ n from to. c.loop-weekday.invariant n from to (omega arith)))

pub returns-clause-none : goal.returns-clause-none
returns-clause-none c = λ none. meet-nowhere c.args.one.now c.args.other.now (omega arith) (sym (returns-clause-value c))
