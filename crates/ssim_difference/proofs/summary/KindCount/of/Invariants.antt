-- The numbers of the flights so far.
use Rattle.std.proofs.Common.{◌≡◌, take}
use Rattle.ssim_difference.specs.internal.KindCounts.{all_of_kind, capped, flights_of_kind}
use Rattle.ssim_difference.proofs.summary.KindCount.of.Given as goal

abbrev pub invariant-loop-flight : goal.invariant-loop-flight
invariant-loop-flight l = record {
  flights : l.count.flights ≡ capped (flights_of_kind l.kind (take l.flight-index l.flights));
  dates : l.count.dates ≡ capped (all_of_kind l.kind (take l.flight-index l.flights));
}
