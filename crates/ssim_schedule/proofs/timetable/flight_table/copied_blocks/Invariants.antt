use Rattle.std.proofs.Common.{◌≡◌, take}
use Rattle.ssim_schedule.proofs.timetable.flight_table.copied_blocks.Given as goal

abbrev pub invariant-loop-block : goal.invariant-loop-block
invariant-loop-block l = l.copies.items ≡ take l.block-index l.blocks
