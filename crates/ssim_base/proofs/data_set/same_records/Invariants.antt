-- The records before this place are the same.
use Rattle.std.proofs.Common.{◌≡◌, length, take}
use Rattle.ssim_base.proofs.data_set.same_records.Given as goal

abbrev pub invariant-loop-place : goal.invariant-loop-place
invariant-loop-place l = (length l.mine ≡ length l.theirs) × (take l.place l.mine ≡ take l.place l.theirs)
