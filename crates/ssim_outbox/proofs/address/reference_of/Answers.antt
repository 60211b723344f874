-- The heading resolves, or its date means no day.
use Rattle.std.proofs.Common.{sym, subst}
use Rattle.ssim_outbox.specs.declared.fault.OutboxFault.{OutboxFault}
use Rattle.ssim_outbox.specs.internal.Addressed.{RefusesDate}
use Rattle.ssim_outbox.proofs.Addressing.{date_refusal, resolved_in}
use Rattle.ssim_outbox.proofs.address.reference_of.Goals as goal

pub returns-in-Ok-clause-ok : goal.returns-in-Ok-clause-ok
returns-in-Ok-clause-ok c = λ records has.
    resolved_in c.args.frame.now records c.args.heading.now c.in-Ok.text has (c.in-Ok.ensures.ok records has)

pub returns-in-Err-clause-err : goal.returns-in-Err-clause-err
returns-in-Err-clause-err c = λ records has.
    subst (λ (f : OutboxFault). RefusesDate c.args.frame.now.carrier c.args.heading.now f)
    (sym c.date_refused.ensures)
    (date_refusal c.args.frame.now records c.args.heading.now c.in-Err.fault has c.requires.mode c.requires.subs
    (c.in-Err.ensures.err records has))
