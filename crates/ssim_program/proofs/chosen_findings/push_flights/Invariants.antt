-- The flights so far.
use Rattle.std.proofs.Common.{◌≡◌, ◌++◌, map, take}
use Rattle.ssim_program.proofs.chosen_findings.push_flights.Given as goal

abbrev pub invariant-loop-sub : goal.invariant-loop-sub
invariant-loop-sub l =
    l.flights.items ≡ l.initial.flights.items ++ map (λ sub. sub.flight) (take l.sub-index l.subs)
