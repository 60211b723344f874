-- The record is held after what was held before; or the sink fails before it is held.
use Rattle.ssim_base.proofs.SinkLemmas.{held_after, not_held}
use Rattle.ssim_base.proofs.output_buffer.put_record.Goals as goal

pub returns-in_err-make_room-clause-puts : goal.returns-in_err-make_room-clause-puts
returns-in_err-make_room-clause-puts g c =
    not_held _ _ _ _ _ _ c.from_residual.ensures.0 c.in_err-make_room.ensures.puts

pub returns-clause-puts : goal.returns-clause-puts
returns-clause-puts g c =
    held_after _ _ _ _ _ _ c.push_record.ensures c.in_ok-make_room.ensures.puts
