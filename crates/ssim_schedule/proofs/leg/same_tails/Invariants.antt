-- The tails so far are the same, so the others decide.
use Rattle.std.proofs.Common.{◌≡◌, drop}
use Rattle.ssim_base.specs.Export.{same_tails}
use Rattle.ssim_schedule.proofs.leg.same_tails.Given as goal

abbrev pub invariant-loop-place : goal.invariant-loop-place
invariant-loop-place l = same_tails (drop l.place l.mine) (drop l.place l.theirs) ≡ same_tails l.mine l.theirs
