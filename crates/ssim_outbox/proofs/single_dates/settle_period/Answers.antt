-- One number more.
use Rattle.std.proofs.Common.{◌∙◌, ◌+◌, ◌<◌, subst, arith}
use Rattle.ssim_outbox.proofs.Settling.{all_before, none_before, one_more}
use Rattle.ssim_outbox.proofs.single_dates.settle_period.Goals as goal

pub loop-number-init : goal.loop-number-init
loop-number-init c from to change_is is =
    none_before c.args.rows.now from to c.args.draft.now c.args.change.now.flight c.args.period
    c.number-first.result (c.number-first.ensures.value ∙ c.first.ensures.value) is

pub loop-number-preserved : goal.loop-number-preserved
loop-number-preserved c from to change_is is =
    let begun = c.loop-number.invariant from to change_is is in
    one_more c.args.rows.now from to c.args.draft.now c.loop-number.draft c.settle_number.new.draft
    c.args.change.now.flight c.args.period c.loop-number.number begun
    (c.in_ok-settle_number.ensures from to change_is begun.draft)

pub returns : goal.returns
returns c from to change_is is =
    let last = c.number-end.ensures.value ∙ c.last.ensures.value in
    all_before c.args.rows.now from to c.args.draft.now c.loop-number.draft c.args.change.now.flight
    c.args.period (c.number-end.result + 1) c.loop-number.number
    (subst (λ n. n < c.number-end.result + 1) last (omega arith)) c.loop-number-test.false
    (c.loop-number.invariant from to change_is is)
