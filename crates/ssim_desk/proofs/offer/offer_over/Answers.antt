-- What the text spells is offered as it resolves.
use Rattle.std.proofs.Common.{◌≡◌, Result, Err, IfErr, sym, subst, rules}
use Rattle.ssim_held.specs.Held.{DeskState}
use Rattle.ssim_held.specs.Entries.{map_of}
use Rattle.ssim_held.specs.declared.fault.DeskFault.{DeskFault}
use Rattle.ssim_desk.specs.Steps.{RefusesText}
use Rattle.ssim_desk.specs.declared.offer.Offer.{Offer}
use Rattle.ssim_held.proofs.Resolving.{each_dated}
use Rattle.ssim_desk.proofs.offer.offer_over.Goals as goal

pub returns-in_err-message-clause-err : goal.returns-in_err-message-clause-err
returns-in_err-message-clause-err c = λ base has.
    let state : DeskState = record { base = base; held = map_of c.args.held.now } in
    let refusal : c.from_residual.result ≡ Err c.in_err-message.field-0.0 = search rules in
    subst (λ (r : Result Offer DeskFault). IfErr r (RefusesText state c.args.text.now)) (sym refusal) (c.in_err-message.ensures.err state has)

pub offer_resolved-requires-clause-dated : goal.offer_resolved-requires-clause-dated
offer_resolved-requires-clause-dated c =
    each_dated c.requires.0 c.in_ok-message.message c.in_ok-message.resolved (c.in_ok-message.ensures.ok c.requires.0 c.requires.1).1

pub returns-clause-ok : goal.returns-clause-ok
returns-clause-ok c = λ base has.
    let read = c.in_ok-message.ensures.ok base.records has in
    c.offer_resolved.ensures.ok base c.args.text.now read.0 read.1

pub returns-clause-err : goal.returns-clause-err
returns-clause-err c = λ base has.
    let read = c.in_ok-message.ensures.ok base.records has in
    c.offer_resolved.ensures.err base c.args.text.now read.0 read.1
