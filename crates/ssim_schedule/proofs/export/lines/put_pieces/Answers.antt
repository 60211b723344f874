-- One more piece is put.
use Rattle.std.proofs.Common.{refl, ap, subst, arith}
use Rattle.std.specs.List.{All}
use Rattle.ssim_base.specs.Timetable.{Legs}
use Rattle.ssim_base.specs.ReadBack.{IsWritable}
use Rattle.ssim_base.proofs.Each.{all_done, all_more, item}
use Rattle.ssim_schedule.specs.internal.Plan.{HasWritableLegs, pieces_count}
use Rattle.ssim_schedule.specs.internal.SharedLegs.{legs_count}
use Rattle.ssim_base.proofs.SinkLemmas.{next_fails, next_put}
use Rattle.ssim_schedule.proofs.Puts.{pieces-split}
use Rattle.ssim_schedule.proofs.export.lines.put_pieces.Goals as goal

pub returns-in_err-next-clause-puts : goal.returns-in_err-next-clause-puts
returns-in_err-next-clause-puts g c =
    let at = c.loop-piece in
    let is = item c.args.pieces.now at.piece-index c.piece-item.result c.loop-piece-test.true
    c.piece-item.is in
    next_fails at.block _ _
    (pieces-split c.args.airline c.args.flight at.variation at.next is c.legs.ensures refl)
    at.invariant.puts _ _ c.from_residual.ensures.0 c.in_err-next.ensures.puts

pub loop-piece-preserved : goal.loop-piece-preserved
loop-piece-preserved g c =
    let at = c.loop-piece in
    let is = item c.args.pieces.now at.piece-index c.piece-item.result c.loop-piece-test.true
    c.piece-item.is in
    let count = c.in_ok-next.ensures.next in
    record {
      variation = omega arith;
      next = omega (arith, ap pieces_count is, ap legs_count c.legs.ensures);
      puts = next_put at.block _ _
          (pieces-split c.args.airline c.args.flight at.variation at.next is c.legs.ensures
          count)
          at.invariant.puts c.in_ok-next.ensures.puts;
      writable = all_more HasWritableLegs c.args.pieces.now at.piece-index c.piece-item.result
          c.loop-piece-test.true c.piece-item.is at.invariant.writable
          (subst (λ (ls : Legs). All IsWritable ls) c.legs.ensures c.in_ok-next.ensures.writable);
    }

pub returns-clause-writable : goal.returns-clause-writable
returns-clause-writable g c =
    all_done HasWritableLegs c.args.pieces.now c.loop-piece.piece-index c.loop-piece-test.false
    c.loop-piece.invariant.writable
