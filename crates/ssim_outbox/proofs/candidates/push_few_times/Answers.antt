-- TIM with these lines can be said.
use Rattle.std.proofs.Common.{List, [], ◌∷◌, subst, sym}
use Rattle.std.specs.List.{AllByRecursion}
use Rattle.ssim_text.specs.declared.action.Action.TheVariants.{Tim}
use Rattle.ssim_text.specs.declared.leg.LegLine.{LegLine}
use Rattle.ssim_text.proofs.ReadsBack.{all_both}
use Rattle.ssim_outbox.specs.Reach.{IsSaid}
use Rattle.ssim_outbox.proofs.SaidActions.{said_if_allowed}
use Rattle.ssim_outbox.proofs.candidates.push_few_times.Goals as goal

pub returns-clause-said : goal.returns-clause-said
returns-clause-said c =
    let lines = c.args.lines.now in
    let legs = c.in_ok-of.field-0 in
    let said = said_if_allowed (Tim lines) c.requires.few c.requires.lines in
    subst (AllByRecursion IsSaid) (sym c.in_ok-push.ensures.items)
    (all_both IsSaid c.args.actions.now.items (Tim legs ∷ []) c.requires.before
    (subst (λ (x : List LegLine). IsSaid (Tim x)) (sym c.in_ok-of.ensures) said, tt))
