-- What is added for the entries from the place on.
use Rattle.std.proofs.Common.{◌≡◌, ◌≤◌, length, drop}
use Rattle.ssim_periods.specs.internal.Parts.{added_parts}
use Rattle.ssim_periods.proofs.apart_periods.within.added_parts.Given as goal

abbrev pub invariant-loop-place : goal.invariant-loop-place
invariant-loop-place g l = record {
  within : l.place ≤ length l.entries;
  added : l.added.items ≡ added_parts g.V.Value.alike g.V.Value.nothing (g.C.Change.outcome l.change) l.period (drop l.place l.entries);
}

abbrev pub decreases-loop-place : goal.decreases-loop-place
decreases-loop-place g l = l.place
