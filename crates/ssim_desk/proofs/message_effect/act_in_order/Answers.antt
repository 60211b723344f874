-- One more message acts.
use Rattle.std.proofs.Common.{take, subst}
use Rattle.ssim_desk.specs.Meaning.{after_entries}
use Rattle.ssim_desk.specs.internal.Changes.{Shows}
use Rattle.ssim_desk.proofs.SomeFlights.{after_one_more}
use Rattle.ssim_desk.proofs.message_effect.act_in_order.Goals as goal

pub loop-held-preserved : goal.loop-held-preserved
loop-held-preserved c = λ before shows.
    let rows = c.args.rows.now in
    let messages = c.args.messages.now in
    let k = c.loop-held.held-index in
    subst (Shows c.act.new.schedule) (after_one_more rows messages k c.held-item.result c.loop-held-test.true c.held-item.is before)
    (c.in_ok-act.ensures.shows (after_entries rows (take k messages) before) (c.loop-held.invariant before shows))
