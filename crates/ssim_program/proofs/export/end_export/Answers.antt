-- The export was written and is flushed, or it was not.
use Rattle.std.proofs.Common.{Result, subst}
use Rattle.ssim_schedule.specs.declared.export.ExportFault.{ExportFault}
use Rattle.ssim_schedule.specs.clauses.ExportResult.{RefusesBase}
use Rattle.ssim_program.specs.internal.Export.{IsWritten}
use Rattle.ssim_program.specs.print.Paper.{writer_of}
use Rattle.ssim_program.proofs.Exporting.{flushed, itself, not_exported, not_written}
use Rattle.ssim_program.proofs.export.end_export.Goals as goal

pub returns-in-Ok-clause-printed : goal.returns-in-Ok-clause-printed
returns-in-Ok-clause-printed g c base days before airline written =
    flushed base days before c.args.out.now c.flush.new.self c.flush.result (subst (λ (w : Result (Unit {0}) ExportFault). IsWritten base days before c.args.out.now w) c.in-Ok.is written) c.flush.ensures

pub returns-in-Ok-clause-again : goal.returns-in-Ok-clause-again
returns-in-Ok-clause-again g c base days before written =
    itself base days before c.args.out.now c.flush.new.self c.flush.result (subst (λ (w : Result (Unit {0}) ExportFault). IsWritten base days before c.args.out.now w) c.in-Ok.is written) c.flush.ensures

pub returns-in-WriteFault-clause-printed : goal.returns-in-WriteFault-clause-printed
returns-in-WriteFault-clause-printed g c base days before airline written =
    let w = subst (λ (w : Result (Unit {0}) ExportFault). IsWritten base days before c.args.out.now w) c.in-Err.is written in
    not_written base days before c.args.out.now (subst (λ (f : ExportFault). RefusesBase writer_of base days before c.args.out.now f) c.in-WriteFault.is w.err)

pub returns-in_default-clause-printed : goal.returns-in_default-clause-printed
returns-in_default-clause-printed g c base days before airline written =
    let w = subst (λ (w : Result (Unit {0}) ExportFault). IsWritten base days before c.args.out.now w) c.in-Err.is written in
    not_exported base days before c.args.out.now c.args.airline c.in-Err.fault airline c.in_default.not-WriteFault w.err
