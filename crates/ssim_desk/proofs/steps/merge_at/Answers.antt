use Rattle.std.proofs.Common.{arith, get_or, refl}
use Rattle.ssim_desk.proofs.StepLemmas.{merge_back, merge_front}
use Rattle.ssim_desk.proofs.steps.merge_at.Goals as goal

pub returns-then-into-from-clause-merges : goal.returns-then-into-from-clause-merges
returns-then-into-from-clause-merges g c =
    let s = c.split_at_mut-front.ensures in
    merge_front g.D.Holder.seen c.args.desks.now c.split_at_mut-front.result.0.now c.split_at_mut-front.result.1.now c.args.into c.args.from c.merge_step.result
    (get_or c.split_at_mut-front.result.0.now c.args.into c.index-front-into.result) (get_or c.split_at_mut-front.result.1.now 0 c.index-back-0.result) c.merge_step.new.desk c.index-front-into.result c.index-back-0.result
    s.value s.front_len c.if-into-from.true c.requires.from refl refl c.merge_step.ensures.base c.merge_step.ensures.merges

pub returns-else-into-from-clause-merges : goal.returns-else-into-from-clause-merges
returns-else-into-from-clause-merges g c =
    let s = c.split_at_mut-front-else-into-from.ensures in
    merge_back g.D.Holder.seen c.args.desks.now c.split_at_mut-front-else-into-from.result.0.now c.split_at_mut-front-else-into-from.result.1.now c.args.into c.args.from c.merge_step-else-into-from.result
    (get_or c.split_at_mut-front-else-into-from.result.1.now 0 c.index-back-0-else-into-from.result) (get_or c.split_at_mut-front-else-into-from.result.0.now c.args.from c.index-front-from.result) c.merge_step-else-into-from.new.desk c.index-back-0-else-into-from.result c.index-front-from.result
    s.value s.front_len (omega (arith, c.if-into-from.false, c.requires.two)) c.requires.into refl refl
    c.merge_step-else-into-from.ensures.base c.merge_step-else-into-from.ensures.merges
