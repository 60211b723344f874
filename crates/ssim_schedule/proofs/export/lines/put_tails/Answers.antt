-- One more tail is put.
use Rattle.std.proofs.Common.{arith}
use Rattle.ssim_records.specs.Segment.{IsTail}
use Rattle.ssim_base.proofs.Each.{all_more, item}
use Rattle.ssim_base.proofs.SinkLemmas.{next_fails, next_put}
use Rattle.ssim_schedule.proofs.Puts.{tails-split}
use Rattle.ssim_schedule.proofs.export.lines.put_tails.Goals as goal

pub returns-in_err-put_segment-clause-puts : goal.returns-in_err-put_segment-clause-puts
returns-in_err-put_segment-clause-puts g c =
    let at = c.loop-tail in
    let is = item c.args.tails.now at.tail-index _ c.loop-tail-test.true c.tail-item.is in
    next_fails at.block _ _ (tails-split c.args.name.now c.args.columns.now at.next is)
    at.invariant.puts _ _ c.from_residual.ensures.0 c.in_err-put_segment.ensures.puts

pub loop-tail-preserved : goal.loop-tail-preserved
loop-tail-preserved g c =
    let at = c.loop-tail in
    let is = item c.args.tails.now at.tail-index _ c.loop-tail-test.true c.tail-item.is in
    record {
      next = omega arith;
      puts = next_put at.block _ _ (tails-split c.args.name.now c.args.columns.now at.next is)
          at.invariant.puts c.in_ok-put_segment.ensures.puts;
      writable = all_more IsTail c.args.tails.now at.tail-index c.tail-item.result
          c.loop-tail-test.true c.tail-item.is at.invariant.writable
          c.in_ok-put_segment.ensures.tail;
    }
