-- The best of all is the one that no other one beats.
use Rattle.std.proofs.Common.{◌+◌, List, Option, subst, sym, take}
use Rattle.std.proofs.lemmas.List.{take_all}
use Rattle.ssim_values.specs.Variation.{Offset}
use Rattle.ssim_overview.specs.internal.SaidRows.{better}
use Rattle.ssim_overview.specs.declared.sayings.Saying.{Saying}
use Rattle.ssim_overview.proofs.SaidMost.{BestOf, best_is, best_more}
use Rattle.ssim_overview.proofs.SaidSteps.{taken}
use Rattle.ssim_overview.proofs.said_variation.most.Goals as goal

pub loop-saying-preserved : goal.loop-saying-preserved
loop-saying-preserved c =
    let all = c.args.sayings.now in let i = c.loop-saying.saying-index in let x = c.saying-item.result in
    subst (λ (best : Option Offset). BestOf all (take (i + 1) all) best) (sym c.better-best.ensures)
    (subst (λ (some : List Saying). BestOf all some (better all x.variation c.loop-saying.best))
    (sym (taken all i x c.loop-saying-test.true c.saying-item.is))
    (best_more all (take i all) x c.loop-saying.best c.loop-saying.invariant))

pub returns : goal.returns
returns c =
    let all = c.args.sayings.now in let i = c.loop-saying.saying-index in
    best_is all c.loop-saying.best
    (subst (λ (some : List Saying). BestOf all some c.loop-saying.best)
    (take_all i all c.loop-saying-test.false) c.loop-saying.invariant)
