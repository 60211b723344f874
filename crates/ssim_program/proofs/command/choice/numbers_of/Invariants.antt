-- The flights so far.
use Rattle.std.proofs.Common.{◌≡◌, map, take}
use Rattle.ssim_program.proofs.command.choice.numbers_of.Given as goal

abbrev pub invariant-loop-designator : goal.invariant-loop-designator
invariant-loop-designator l = l.flights.items ≡ map (λ d. d.flight) (take l.designator-index l.named)
