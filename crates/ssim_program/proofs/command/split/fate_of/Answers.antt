-- A section whose data set was read is kept or has no export; the others are refused for their fault.
use Rattle.std.proofs.Common.{Ok, IfOk, ap, inl, refl, subst, sym}
use Rattle.ssim_parts.specs.Sections.{SectionRead}
use Rattle.ssim_parts.specs.clauses.Sections.{outcome_seen}
use Rattle.ssim_program.specs.Splitting as split
use Rattle.ssim_program.specs.internal.Splitting.{fate_seen}
use Rattle.ssim_program.specs.declared.refusal.Refusal.TheVariants as refused
use Rattle.ssim_program.proofs.RefusedSections.{refused_fate}
use Rattle.ssim_program.proofs.command.split.fate_of.Goals as goal

pub returns-in-Ok-clause-ok : goal.returns-in-Ok-clause-ok
returns-in-Ok-clause-ok c =
    subst (λ (s : SectionRead). IfOk c.kept_set.result
    (λ fate. split.fate_of c.args.prefix.now c.args.done.now s (Ok (fate_seen fate))))
    (ap (λ o. record {
      airline = c.args.section.airline;
      records = c.args.section.records;
      outcome = outcome_seen o;
    }) (sym c.in-Ok.is)) c.kept_set.ensures.ok

pub returns-in-Err-clause-ok : goal.returns-in-Err-clause-ok
returns-in-Err-clause-ok c =
    refused_fate c.refused.result c.args.prefix.now c.args.done.now _
    (refused.DataSet c.in-Err.fault)
    (inl (c.in-Err.fault, ap outcome_seen c.in-Err.is, refl)) c.refused.ensures.ok
