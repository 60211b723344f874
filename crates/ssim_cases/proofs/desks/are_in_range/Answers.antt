use Rattle.std.proofs.Common.{All, refl, subst}
use Rattle.std.proofs.lemmas.List.{take_all}
use Rattle.std.proofs.lemmas.List.Elements.{All-more}
use Rattle.ssim_desk.specs.Steps.{IsInRange}
use Rattle.ssim_cases.proofs.desks.are_in_range.Goals as goal

pub loop-step-preserved : goal.loop-step-preserved
loop-step-preserved c =
    All-more (IsInRange c.args.count) c.args.steps.now c.loop-step.step-index c.step-item.result c.loop-step-test.true c.loop-step.invariant
    (subst (IsInRange c.args.count) c.step-item.is (c.if-not-is_in_range.ensures refl))

pub returns : goal.returns
returns c = λ _. subst (All (IsInRange c.args.count)) (take_all c.loop-step.step-index c.args.steps.now c.loop-step-test.false) c.loop-step.invariant
