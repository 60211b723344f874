use Rattle.std.proofs.Common.{◌-◌}
use Rattle.ssim_held.specs.clauses.Ordered.{Belongs}
use Rattle.ssim_held.proofs.lookup.search.Given as goal

abbrev pub invariant-loop-low : goal.invariant-loop-low
invariant-loop-low l = Belongs l.held l.reference l.low l.high

abbrev pub decreases-loop-low : goal.decreases-loop-low
decreases-loop-low l = l.high - l.low
