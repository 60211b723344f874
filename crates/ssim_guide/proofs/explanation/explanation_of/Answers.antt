use Rattle.ssim_guide.proofs.Explained.{none_found, row_found}
use Rattle.ssim_guide.proofs.explanation.explanation_of.Goals as goal

pub returns-then-entry-number-clause-found : goal.returns-then-entry-number-clause-found
returns-then-entry-number-clause-found c =
    row_found c.explanations-entry-items.result.now c.loop-entry.entry-index c.args.number _
    c.explanations-entry-items.ensures c.loop-entry-test.true c.if-entry-number.true

pub returns-clause-found : goal.returns-clause-found
returns-clause-found c =
    none_found c.explanations-entry-items.result.now c.loop-entry.entry-index c.args.number
    c.explanations-entry-items.ensures c.loop-entry-test.false c.loop-entry.invariant
