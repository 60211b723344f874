-- The buffer was empty, so it has the desk's export.
use Rattle.ssim_held.specs.Entries.{state_of}
use Rattle.ssim_program.proofs.Outcomes.{exports_err, exports_ok}
use Rattle.ssim_program.proofs.rehearse.outcome.export_into.Goals as goal

pub returns-in-Ok-clause-ok : goal.returns-in-Ok-clause-ok
returns-in-Ok-clause-ok c = exports_ok (state_of c.args.desk) c.args.out.now c.export.new.out c.requires.empty c.in-Ok.ensures.exports

pub returns-in_default : goal.returns-in_default
returns-in_default c = record {
  ok = exports_err (state_of c.args.desk) c.args.out.now c.export.new.out c.in-Err.fault c.in-Err.ensures.exports c.in_default.not-WriteFault;
  err = tt;
}
