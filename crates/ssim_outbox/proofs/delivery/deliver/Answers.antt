-- The message that comes first is delivered, and what is left can be.
use Rattle.std.proofs.Common.{◌≡◌, ◌++◌, Err, IfErr, sym, subst, rules, ◌∙◌}
use Rattle.ssim_held.specs.declared.fault.DeskFault.TheVariants.{Memory}
use Rattle.ssim_outbox.specs.Delivery.{entries_of}
use Rattle.ssim_outbox.proofs.Delivered.{all_delivered, can_resolve, one_less}
use Rattle.ssim_outbox.proofs.delivery.deliver.Goals as goal

pub returns-in_err-deliver_one-clause-err : goal.returns-in_err-deliver_one-clause-err
returns-in_err-deliver_one-clause-err c = λ h g subs r dates can.
    let l = c.loop-message in
    let fault = c.in_err-deliver_one.field-0.0 in
    let refusal : c.from_residual.result ≡ Err fault = search rules in
    let all = c.args.desk.now.held ++ entries_of r dates c.args.messages.now in
    subst (λ r. IfErr r (λ f. f ≡ Memory)) (sym refusal)
    (can_resolve l.desk h l.left.now c.in-Some.later.now c.in-Some.message.now all (fault ≡ Memory)
    c.in-Some.ensures.cases.0 c.in_err-deliver_one.ensures.err (l.invariant.left h g subs r dates can))

pub loop-message-preserved : goal.loop-message-preserved
loop-message-preserved c =
    let l = c.loop-message in
    record {
      base = c.deliver_one.ensures.base ∙ l.invariant.base;
      left = λ h g subs r dates can.
          one_less l.desk c.deliver_one.new.desk h l.left.now c.in-Some.later.now c.in-Some.message.now
          (c.args.desk.now.held ++ entries_of r dates c.args.messages.now) c.in-Some.ensures.cases.0
          c.deliver_one.ensures.base c.in_ok-deliver_one.ensures.ok (l.invariant.left h g subs r dates can);
    }

pub returns-clause-ok : goal.returns-clause-ok
returns-clause-ok c = λ h g subs r dates can.
    let l = c.loop-message in
    all_delivered c.args.desk.now l.desk h g subs r dates c.args.messages.now l.left.now can
    l.invariant.base c.in_default.ensures.cases (l.invariant.left h g subs r dates can)
