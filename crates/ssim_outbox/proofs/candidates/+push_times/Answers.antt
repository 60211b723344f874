-- TIM with the first lines, and then those with the later ones.
use Rattle.std.proofs.Common.{◌++◌, ◌∙◌, List, [], ◌∷◌, ap, subst}
use Rattle.std.proofs.lemmas.Result.{on_ok_weaker}
use Rattle.ssim_text.specs.declared.action.Action.TheVariants.{Tim}
use Rattle.ssim_text.specs.declared.leg.LegLine.{LegLine}
use Rattle.ssim_outbox.specs.internal.Candidates.{AddsTimes}
use Rattle.ssim_outbox.proofs.Tried.{add_times}
use Rattle.ssim_outbox.proofs.candidates.+push_times.Goals as goal

pub returns-clause-added : goal.returns-clause-added
returns-clause-added t c =
    let before = c.args.actions.now.items in
    let first = c.push_few_times.new.actions.items in
    let after = c.push_times.new.actions.items in
    let pushed = c.in_ok-push_few_times.ensures.added
    ∙ ap (λ (lines : List LegLine). before ++ Tim lines ∷ []) c.first_lines.ensures.first in
    on_ok_weaker c.push_times.result
    (λ adds. add_times c.args.lines.now before first after pushed
    (subst (λ (lines : List LegLine). AddsTimes lines first after) c.first_lines.ensures.later adds))
    c.push_times.ensures.added
