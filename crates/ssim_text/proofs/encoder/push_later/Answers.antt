-- A divider comes before each sub-message.
use Rattle.ssim_text.proofs.Writing.{written_later}
use Rattle.ssim_text.proofs.encoder.push_later.Goals as goal

pub loop-sub-preserved : goal.loop-sub-preserved
loop-sub-preserved c =
    written_later c.args.out.now.items c.loop-sub.out.items c.push_line.new.out.items c.push.new.out.items c.args.subs.now c.loop-sub.sub-index c.sub-item.result c.loop-sub-test.true c.sub-item.is c.loop-sub.invariant c.in_ok-push_line.ensures c.in_ok-push.ensures
