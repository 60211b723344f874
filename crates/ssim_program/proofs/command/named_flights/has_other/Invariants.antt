-- The flights so far are the airline's.
use Rattle.std.proofs.Common.{All, take}
use Rattle.ssim_program.specs.Messages.{IsOf}
use Rattle.ssim_program.proofs.command.named_flights.has_other.Given as goal

abbrev pub invariant-loop-flight : goal.invariant-loop-flight
invariant-loop-flight l = All (IsOf l.airline) (take l.flight-index l.flights)
