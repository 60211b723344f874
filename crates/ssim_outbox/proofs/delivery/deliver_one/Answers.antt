-- The message is new to the desk, and it comes last.
use Rattle.std.proofs.Common.{◌≡◌, Result, Err, IfErr, IfOk, sym, subst, rules}
use Rattle.ssim_text.specs.declared.reference.Reference.{Reference}
use Rattle.ssim_held.specs.Entries.{map_of, state_of}
use Rattle.ssim_held.specs.declared.fault.DeskFault.{DeskFault}
use Rattle.ssim_held.specs.declared.fault.DeskFault.TheVariants.{Memory}
use Rattle.ssim_desk.specs.Steps.{IsNew}
use Rattle.ssim_desk.specs.declared.desk.Took.{Took}
use Rattle.ssim_outbox.proofs.Delivering.{held_after, not_refused, taken}
use Rattle.ssim_outbox.proofs.delivery.deliver_one.Goals as goal

pub returns-in_err-_taken-clause-err : goal.returns-in_err-_taken-clause-err
returns-in_err-_taken-clause-err c = λ resolved resolves follows.
    let old = c.args.desk.now in
    let fault = c.in_err-_taken.field-0.0 in
    let refusal : c.from_residual.result ≡ Err fault = search rules in
    subst (λ r. IfErr r (λ f. f ≡ Memory)) (sym refusal)
    (subst (λ (r : Result (Took × Reference) DeskFault). IfErr r (λ f. f ≡ Memory)) c.in_err-_taken.was
    (not_refused old c.args.message.now c.text.result.now resolved c.held.ensures.kept c.text.ensures.spells
    resolves follows c.take.result (map_of c.take.new.self.held) c.take.ensures.takes))

pub returns-clause-ok : goal.returns-clause-ok
returns-clause-ok c = λ resolved resolves follows.
    let old = c.args.desk.now in
    let new = c.take.new.self in
    held_after old c.args.message.now c.text.result.now resolved c.held.ensures.kept c.text.ensures.spells
    resolves follows new _ c.take.ensures.base c.held-2.ensures.kept
    (subst (λ (r : Result (Took × Reference) DeskFault).
    IfOk r (λ t. IsNew (state_of old) c.text.result.now t.1 (map_of new.held)))
    c.in_ok-_taken.was
    (taken old c.args.message.now c.text.result.now resolved c.held.ensures.kept c.text.ensures.spells
    resolves follows c.take.result (map_of new.held) c.take.ensures.takes))
