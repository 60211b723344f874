-- Of two lists that are the same so far, one that has ended comes first.
use Rattle.std.proofs.Common.{◌≡◌, ◌≢◌, ◌<◌, ◌≤◌, length, sym, ◌∙◌, arith}
use Rattle.ssim_schedule.proofs.TailsOrder.{longer, shorter}
use Rattle.ssim_schedule.proofs.leg.order_of_tails.Goals as goal

pub returns-then-place-theirs : goal.returns-then-place-theirs
returns-then-place-theirs c =
    let ended = c.if-place-theirs.true in let more = c.loop-place-test.true in
    sym (longer c.args.mine.now c.args.theirs.now c.loop-place.place (omega arith) (omega arith)) ∙ c.loop-place.invariant.rest

pub returns : goal.returns
returns c =
    let ended = c.loop-place-test.false in let apart = c.if-mine-theirs.false in let within = c.loop-place.invariant.within in let to = c.loop-place.auto.place-end in
    sym (shorter c.args.mine.now c.args.theirs.now c.loop-place.place (omega arith) (omega arith)) ∙ c.loop-place.invariant.rest
