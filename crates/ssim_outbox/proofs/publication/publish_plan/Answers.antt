-- The messages lead a desk to what the plan leaves.
use Rattle.std.proofs.Common.{◌≡◌, ◌∙◌, Err, IfErr, List, ap, arith, length, sym, subst, rules}
use Rattle.ssim_base.specs.Base.{airline_of}
use Rattle.ssim_base.specs.BaseSeen.{BaseSeen}
use Rattle.ssim_text.specs.Message.{MessageValue}
use Rattle.ssim_outbox.specs.MailFile.{mail_file}
use Rattle.ssim_outbox.specs.Publication.{RefusesPublication}
use Rattle.ssim_outbox.proofs.Joined.{published_by, unsent}
use Rattle.ssim_outbox.proofs.publication.publish_plan.Goals as goal

pub returns-clause-ok : goal.returns-clause-ok
returns-clause-ok c = λ to word addressed has.
    let counted : c.len-count.result ≡ length c.args.plan.subs.items =
    omega (arith, c.len-count.ensures, c.args.plan.subs.ok.0) in
    published_by c.args.from.now to word c.args.address.heading c.args.address.reference c.args.plan.subs.items
    c.args.plan.unsaid.items addressed has c.airline-airline.result
    (c.airline-airline.ensures ∙ ap (λ (b : BaseSeen). airline_of b.records) c.base.ensures)
    c.in_ok-messages.messages.items c.in_ok-lines.lines.items c.in_ok-mail.mail.items
    c.rows-rows.result.now c.deref.result.now c.len-count.result c.deref-2.result.now
    (c.rows-rows.ensures ∙ ap (λ (b : BaseSeen). b.rows) c.base-2.ensures) c.deref.ensures.value counted
    c.deref-2.ensures.value c.in_ok-messages.ensures.ok c.in_ok-messages.ensures.resolved c.in_ok-lines.ensures
    (c.in_ok-mail.ensures.ok ∙ ap (λ (ms : List MessageValue). mail_file ms) c.deref-3.ensures.value)

pub returns-in_err-messages-clause-err : goal.returns-in_err-messages-clause-err
returns-in_err-messages-clause-err c = λ to word addressed has.
    let refusal = c.in_err-messages.field-0.0 in
    let told : c.from_residual.result ≡ Err refusal = search rules in
    subst (λ x. IfErr x (RefusesPublication c.args.from.now to word)) (sym told)
    (unsent c.args.from.now to word c.args.address.heading c.args.address.reference c.args.plan.subs.items
    c.args.plan.unsaid.items addressed has c.airline-airline.result
    (c.airline-airline.ensures ∙ ap (λ (b : BaseSeen). airline_of b.records) c.base.ensures)
    refusal c.in_err-messages.ensures.err)
