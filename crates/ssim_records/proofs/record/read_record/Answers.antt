-- What is read is spelt, and bytes that have a fault spell no record.
use Rattle.std.proofs.Common.{◌≡◌, Ok, Err, rules}
use Rattle.ssim_records.proofs.AnyRecord.{only_spelt}
use Rattle.ssim_records.proofs.record.read_record.Goals as goal

pub returns-in_err-read_into-clause-only : goal.returns-in_err-read_into-clause-only
returns-in_err-read_into-clause-only c =
    let e : c.from_residual.result ≡ Err c.in_err-read_into.field-0.0 = search rules in
    rw e (only_spelt 0 c.args.bytes.now (Err c.in_err-read_into.field-0.0) tt c.in_err-read_into.ensures.err)

pub returns-clause-only : goal.returns-clause-only
returns-clause-only c =
    let spelt = rw c.in-Some.is at c.in_ok-read_into.ensures.ok in
    only_spelt 0 c.args.bytes.now (Ok c.in-Some.record) spelt tt
