-- The entries are those of the changes so far.
use Rattle.std.proofs.Common.{take}
use Rattle.ssim_periods.specs.internal.Apart.{AreOutcomes}
use Rattle.ssim_periods.proofs.apart_periods.first_entries.outcomes_of.Given as goal

abbrev pub invariant-loop-change : goal.invariant-loop-change
invariant-loop-change g l = AreOutcomes g.V.Value.nothing g.C.Change.outcome (take l.change-index l.changes) l.entries.items
