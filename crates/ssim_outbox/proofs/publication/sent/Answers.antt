-- The messages send the sub-messages of the plan.
use Rattle.std.proofs.Common.{◌≡◌, ◌∙◌, List, Err, IfErr, sym, subst, rules}
use Rattle.ssim_text.specs.declared.action.Sub.{Sub}
use Rattle.ssim_outbox.specs.clauses.Fault.{not_sent}
use Rattle.ssim_outbox.specs.clauses.Messages.{RefusesSubs}
use Rattle.ssim_outbox.specs.Publication.{subs_of_plan}
use Rattle.ssim_outbox.specs.internal.Addressed.{RefusesMessages}
use Rattle.ssim_outbox.proofs.Joined.{not_sent_is}
use Rattle.ssim_outbox.proofs.publication.sent.Goals as goal

pub returns-in_err-messages_of-clause-err : goal.returns-in_err-messages_of-clause-err
returns-in_err-messages_of-clause-err c =
    let refusal = c.in_err-messages_of.field-0.0 in
    let m = c.args.heading.now in
    let subs = subs_of_plan c.args.airline c.args.plan.items in
    let told : c.from_residual-in_err-messages_of.result ≡ Err (not_sent refusal) = search rules in
    subst (λ x. IfErr x (RefusesMessages m subs)) (sym told)
    (not_sent_is m subs refusal
    (subst (λ (xs : List Sub). RefusesSubs m xs refusal) (c.deref.ensures.value ∙ c.in_ok-subs.ensures.value)
    c.in_err-messages_of.ensures.err))
