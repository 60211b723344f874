use Rattle.std.proofs.Common.{All, take}
use Rattle.ssim_held.proofs.Unions.{IsHeldIn}
use Rattle.ssim_held.proofs.union.first_new.Given as goal

abbrev pub invariant-loop-place : goal.invariant-loop-place
invariant-loop-place l = All (IsHeldIn l.mine) (take l.place l.theirs)
