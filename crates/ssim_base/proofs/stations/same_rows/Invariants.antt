-- The rows before this index are the same.
use Rattle.std.proofs.Common.{◌≡◌, length, take}
use Rattle.ssim_base.proofs.stations.same_rows.Given as goal

abbrev pub invariant-loop-place : goal.invariant-loop-place
invariant-loop-place l = (length l.mine ≡ length l.theirs) × (take l.place l.mine ≡ take l.place l.theirs)
