-- What the text spells is the message that is resolved.
use Rattle.std.proofs.Common.{◌≡◌, Result, Err, IfErr, sym, subst, rules}
use Rattle.ssim_base.specs.declared.resolution.ResolvedText.{ResolvedText}
use Rattle.ssim_held.specs.clauses.Fault.{message_refused, text_refused}
use Rattle.ssim_held.specs.declared.fault.DeskFault.{DeskFault}
use Rattle.ssim_text.specs.Message.{MessageValue}
use Rattle.ssim_desk.specs.Steps.{RefusesText}
use Rattle.ssim_desk.proofs.Changes.{no_dates, no_text}
use Rattle.ssim_desk.proofs.offer.resolve_text.Goals as goal

pub returns-in_err-message-clause-err : goal.returns-in_err-message-clause-err
returns-in_err-message-clause-err c = λ desk has.
    let text = c.args.text.now in
    let refusal : c.from_residual.result ≡ Err (text_refused c.in_err-message.field-0.0) = search rules in
    subst (λ (r : Result (MessageValue × ResolvedText) DeskFault). IfErr r (RefusesText desk text)) (sym refusal)
    (no_text desk text c.in_err-message.field-0.0 c.in_err-message.ensures.none c.in_err-message.ensures.place)

pub returns-in_err-resolved-clause-err : goal.returns-in_err-resolved-clause-err
returns-in_err-resolved-clause-err c = λ desk has.
    let text = c.args.text.now in
    let refusal : c.from_residual-in_err-resolved.result ≡ Err (message_refused c.in_err-resolved.field-0.0) = search rules in
    subst (λ (r : Result (MessageValue × ResolvedText) DeskFault). IfErr r (RefusesText desk text)) (sym refusal)
    (no_dates desk text c.in_ok-message.message c.in_err-resolved.field-0.0 c.in_ok-message.ensures.found (c.in_err-resolved.ensures.err desk.base.records has))

pub returns-clause-ok : goal.returns-clause-ok
returns-clause-ok c = λ records has. (c.in_ok-message.ensures.found, c.in_ok-resolved.ensures.ok records has)
