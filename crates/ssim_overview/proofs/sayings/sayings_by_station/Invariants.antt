-- What the flights so far say is at the ranks of its stations.
use Rattle.std.proofs.Common.{map, take}
use Rattle.ssim_overview.specs.internal.SaidRows.{AreByRank, flights_say}
use Rattle.ssim_overview.proofs.sayings.sayings_by_station.Given as goal

abbrev pub invariant-loop-flight : goal.invariant-loop-flight
invariant-loop-flight l =
    AreByRank (flights_say (take l.flight-index l.flights)) (map (λ list. list.items) l.sayings.items)
