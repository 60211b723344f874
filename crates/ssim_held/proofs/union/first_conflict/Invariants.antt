use Rattle.std.proofs.Common.{take}
use Rattle.ssim_held.proofs.Unions.{HeldAlike}
use Rattle.ssim_held.proofs.union.first_conflict.Given as goal

abbrev pub invariant-loop-held : goal.invariant-loop-held
invariant-loop-held l = HeldAlike l.mine (take l.held-index l.theirs)
