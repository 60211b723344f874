-- Contracts see no change.
use Rattle.std.proofs.Common.{◌≡◌}
use Rattle.ssim_schedule.proofs.timetable.flight_table.FlightTable.share_where.Given as goal

abbrev pub invariant-loop-flight : goal.invariant-loop-flight
invariant-loop-flight l = l.self ≡ l.initial.self
