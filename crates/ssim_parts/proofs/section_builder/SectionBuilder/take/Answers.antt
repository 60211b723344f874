-- What the block says is added.
use Rattle.std.proofs.Common.{Ok, Err, Option, refl, subst}
use Rattle.ssim_records.specs.clauses.Record.{HasSpelt}
use Rattle.ssim_records.specs.declared.record.Record.{Record}
use Rattle.ssim_parts.specs.Sections.{of_one_carrier}
use Rattle.ssim_parts.proofs.SectionItems.{one-more, when-ok}
use Rattle.ssim_parts.proofs.section_builder.SectionBuilder.take.Goals as goal

pub returns-in-Some-clause-read : goal.returns-in-Some-clause-read
returns-in-Some-clause-read c =
    when-ok c.add.result c.add.ensures (λ adds.
    one-more c.args.self.now _ c.add.new.self c.args.number c.args.block.now (Ok c.in-Some.record)
    (rw c.announces-self.ensures refl) adds
    (subst (λ (o : Option Record). HasSpelt o (of_one_carrier c.args.block.now)) c.in-Some.is
    c.in-Ok.ensures.ok))

pub returns-in-Err-clause-read : goal.returns-in-Err-clause-read
returns-in-Err-clause-read c =
    one-more c.args.self.now _ c.pass_invalid.new.self c.args.number c.args.block.now
    (Err c.in-Err.fault)
    (rw c.announces-self.ensures refl) c.pass_invalid.ensures c.in-Err.ensures.err
