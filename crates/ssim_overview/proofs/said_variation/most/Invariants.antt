-- The best so far.
use Rattle.std.proofs.Common.{take}
use Rattle.ssim_overview.proofs.SaidMost.{BestOf}
use Rattle.ssim_overview.proofs.said_variation.most.Given as goal

abbrev pub invariant-loop-saying : goal.invariant-loop-saying
invariant-loop-saying l = BestOf l.sayings (take l.saying-index l.sayings) l.best
