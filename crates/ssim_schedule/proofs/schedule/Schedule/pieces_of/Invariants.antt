-- The flights so far, each with its pieces.
use Rattle.std.proofs.Common.{◌≡◌, map, take}
use Rattle.ssim_schedule.specs.FlightPieces.{divided}
use Rattle.ssim_schedule.specs.clauses.Schedule.{days_in}
use Rattle.ssim_schedule.proofs.schedule.Schedule.pieces_of.Given as goal

abbrev pub invariant-loop-flight : goal.invariant-loop-flight
invariant-loop-flight l = l.pieces.items ≡ map (divided (days_in l.self)) (take l.flight-index l.flights)
