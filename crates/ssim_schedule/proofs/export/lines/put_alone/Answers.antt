-- The record, and then the fill.
use Rattle.ssim_base.proofs.SinkLemmas.{next_fails, next_put, none_put, puts_then}
use Rattle.ssim_schedule.proofs.Puts.{alone-split}
use Rattle.ssim_schedule.proofs.export.lines.put_alone.Goals as goal

pub returns-in_err-put_record : goal.returns-in_err-put_record
returns-in_err-put_record g c =
    next_fails c.args.block.now _ _ (alone-split c.args.one.now) (none_put _ _) _ _
    c.from_residual.ensures.0 c.in_err-put_record.ensures.puts

pub returns : goal.returns
returns g c =
    puts_then _ _ c.put_fill.new.block _ _ _ c.put_fill.result
    (next_put c.args.block.now _ _ (alone-split c.args.one.now) (none_put _ _)
    c.in_ok-put_record.ensures.puts)
    c.put_fill.ensures
