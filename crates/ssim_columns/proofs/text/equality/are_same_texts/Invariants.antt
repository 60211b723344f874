use Rattle.std.proofs.Common.{◌-◌, ◌≡◌, take}
use Rattle.ssim_columns.proofs.text.equality.are_same_texts.Given as goal

abbrev pub invariant-loop-place : goal.invariant-loop-place
invariant-loop-place l = take l.place l.text ≡ take l.place l.other

abbrev pub decreases-loop-place : goal.decreases-loop-place
decreases-loop-place l = l.last - l.place
