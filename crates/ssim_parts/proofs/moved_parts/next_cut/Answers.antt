-- The legs have their UTC variations, or the rows are steady up to the cut.
use Rattle.std.proofs.Common.{◌∙◌, sym, arith}
use Rattle.ssim_parts.proofs.EvenDays.{all_same, all_theirs, even_days}
use Rattle.ssim_parts.proofs.moved_parts.next_cut.Goals as goal

pub returns-then-have_variations-clause-even : goal.returns-then-have_variations-clause-even
returns-then-have_variations-clause-even c =
    let rows = c.args.rows.now in
    let legs = c.args.legs.now in
    let first = c.args.first in
    even_days rows legs first c.nearer-cut.result (omega arith)
    (λ k. let at = c.nearer.ensures.cut k in omega arith) c.nearer-cut.ensures.cut
    (λ n from to. all_theirs rows n first legs
    (sym c.have_variations.ensures ∙ c.if-have_variations.true))

pub returns-else-have_variations-clause-even : goal.returns-else-have_variations-clause-even
returns-else-have_variations-clause-even c =
    let rows = c.args.rows.now in
    let legs = c.args.legs.now in
    let first = c.args.first in
    even_days rows legs first c.row_cut.result (omega arith)
    (λ k. let at = c.nearer.ensures.cut k in omega arith)
    (λ k. let at = c.nearer-cut.ensures.cut k in omega arith)
    (λ n from to. all_same rows n first legs (λ station. c.row_cut.ensures.steady station n from to))
