-- The first line, the records and the rows, one after another.
use Rattle.std.proofs.Common.{refl}
use Rattle.ssim_base.proofs.SinkLemmas.{next_fails, next_put, none_put, puts_then}
use Rattle.ssim_held.proofs.desk_file_writer.put_base.Goals as goal

pub returns-in_err-put_counted-clause-puts : goal.returns-in_err-put_counted-clause-puts
returns-in_err-put_counted-clause-puts g c =
    next_fails c.args.block.now _ _ refl (none_put _ _) _ _ c.from_residual.ensures.0
    c.in_err-put_counted.ensures

pub returns-in_err-put_records-clause-puts : goal.returns-in_err-put_records-clause-puts
returns-in_err-put_records-clause-puts g c =
    let first = next_put c.args.block.now _ _ refl (none_put _ _) c.in_ok-put_counted.ensures in
    next_fails c.put_counted.new.block _ _ refl first _ _ c.from_residual-in_err-put_records.ensures.0
    c.in_err-put_records.ensures

pub returns-clause-puts : goal.returns-clause-puts
returns-clause-puts g c =
    let first = next_put c.args.block.now _ _ refl (none_put _ _) c.in_ok-put_counted.ensures in
    let second = next_put c.put_counted.new.block _ _ refl first c.in_ok-put_records.ensures in
    puts_then _ _ c.put_rows.new.block _ _ _ c.put_rows.result second c.put_rows.ensures.puts
