-- The line with the number, and then each record.
use Rattle.std.proofs.Common.{refl}
use Rattle.ssim_base.proofs.SinkLemmas.{next_fails, none_put}
use Rattle.ssim_held.proofs.FileParts.{element_fails, element_put, elements_first, elements_put}
use Rattle.ssim_held.proofs.desk_file_writer.put_records.Goals as goal

pub returns-in_err-put_counted : goal.returns-in_err-put_counted
returns-in_err-put_counted g c =
    next_fails c.args.block.now _ _ refl (none_put _ _) _ _ c.from_residual.ensures.0
    c.in_err-put_counted.ensures

pub loop-record-init : goal.loop-record-init
loop-record-init g c = elements_first _ _ c.in_ok-put_counted.ensures

pub returns-in_err-put_record : goal.returns-in_err-put_record
returns-in_err-put_record g c =
    element_fails c.loop-record.invariant c.loop-record-test.true c.record-item.is refl
    _ _ c.from_residual-in_err-put_record.ensures.0 c.in_err-put_record.ensures.puts

pub loop-record-preserved : goal.loop-record-preserved
loop-record-preserved g c =
    element_put c.loop-record.invariant c.loop-record-test.true c.record-item.is refl
    tt c.in_ok-put_record.ensures.puts

pub returns : goal.returns
returns g c = elements_put c.loop-record.invariant c.loop-record-test.false
