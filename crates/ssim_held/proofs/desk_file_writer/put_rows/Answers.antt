-- The line with the number, and then each row.
use Rattle.std.proofs.Common.{refl}
use Rattle.ssim_base.proofs.SinkLemmas.{next_fails, none_put}
use Rattle.ssim_held.proofs.FileParts.{each_put, element_fails, element_put, elements_first}
use Rattle.ssim_held.proofs.FileParts.{elements_put}
use Rattle.ssim_held.proofs.desk_file_writer.put_rows.Goals as goal

pub returns-in_err-put_counted-clause-puts : goal.returns-in_err-put_counted-clause-puts
returns-in_err-put_counted-clause-puts g c =
    next_fails c.args.block.now _ _ refl (none_put _ _) _ _ c.from_residual.ensures.0
    c.in_err-put_counted.ensures

pub loop-row-init : goal.loop-row-init
loop-row-init g c = elements_first _ _ c.in_ok-put_counted.ensures

pub returns-in_err-put_bytes-clause-puts : goal.returns-in_err-put_bytes-clause-puts
returns-in_err-put_bytes-clause-puts g c =
    element_fails c.loop-row.invariant c.loop-row-test.true c.row-item.is c.write_row.ensures.value
    _ _ c.from_residual-in_err-put_bytes.ensures.0 c.in_err-put_bytes.ensures.puts

pub loop-row-preserved : goal.loop-row-preserved
loop-row-preserved g c =
    element_put c.loop-row.invariant c.loop-row-test.true c.row-item.is c.write_row.ensures.value
    c.write_row.ensures.is_row c.in_ok-put_bytes.ensures.puts

pub returns-clause-puts : goal.returns-clause-puts
returns-clause-puts g c = elements_put c.loop-row.invariant c.loop-row-test.false

pub returns-clause-rows : goal.returns-clause-rows
returns-clause-rows g c = each_put c.loop-row.invariant c.loop-row-test.false
