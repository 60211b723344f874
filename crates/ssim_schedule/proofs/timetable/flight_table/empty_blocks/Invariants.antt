-- As many empty blocks as were counted.
use Rattle.std.proofs.Common.{◌≡◌, [], replicate}
use Rattle.ssim_schedule.proofs.timetable.flight_table.empty_blocks.Given as goal

abbrev pub invariant-loop : goal.invariant-loop
invariant-loop l = l.blocks.items ≡ replicate l.counter []
