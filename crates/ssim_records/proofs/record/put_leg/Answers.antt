-- The fault is of the table of this type.
use Rattle.std.proofs.Common.{◌≡◌, Err, rules}
use Rattle.ssim_records.proofs.AnyRecord.{leg_fault}
use Rattle.ssim_records.proofs.record.put_leg.Goals as goal

pub returns-in_err-head-clause-err : goal.returns-in_err-head-clause-err
returns-in_err-head-clause-err c =
    let e : c.from_residual.result ≡ Err c.in_err-head.field-0.0 = search rules in
    rw e (λ number. leg_fault number c.args.bytes.now c.in_err-head.field-0.0 c.requires c.in_err-head.ensures.err)
