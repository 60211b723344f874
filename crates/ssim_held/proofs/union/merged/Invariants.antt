use Rattle.std.proofs.Common.{List, ◌+◌, ◌++◌, length}
use Rattle.ssim_held.specs.Entries.{Entry}
use Rattle.ssim_held.specs.clauses.Ordered.{IsMerged}
use Rattle.ssim_held.proofs.union.merged.Given as goal

abbrev pub invariant-loop-held : goal.invariant-loop-held
invariant-loop-held l = (later : List Entry) → IsMerged l.mine l.theirs later → IsMerged l.fn.mine l.fn.theirs (l.all.items ++ later)

abbrev pub decreases-loop-held : goal.decreases-loop-held
decreases-loop-held l = length l.mine + length l.theirs
