use Rattle.std.proofs.Common.{All, subst}
use Rattle.std.proofs.lemmas.List.{take_all}
use Rattle.std.proofs.lemmas.List.Elements.{All-map, All-more}
use Rattle.ssim_held.specs.Held.{IsDesk}
use Rattle.ssim_desk.proofs.StepLemmas.{is_one, state}
use Rattle.ssim_desk.proofs.steps.each_is_desk.Goals as goal

pub loop-desk-preserved : goal.loop-desk-preserved
loop-desk-preserved g c =
    All-more (is_one g.D.Holder.seen) c.args.desks.now c.loop-desk.desk-index c.desk-item.result c.loop-desk-test.true c.loop-desk.invariant
    (subst (is_one g.D.Holder.seen) c.desk-item.is c.is_desk.ensures)

pub returns : goal.returns
returns g c =
    All-map IsDesk (state g.D.Holder.seen) c.args.desks.now
    (subst (All (is_one g.D.Holder.seen)) (take_all c.loop-desk.desk-index c.args.desks.now c.loop-desk-test.false) c.loop-desk.invariant)
