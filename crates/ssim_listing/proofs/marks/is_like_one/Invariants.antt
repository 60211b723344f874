-- None of the legs so far is like the leg.
use Rattle.std.proofs.Common.{◌≡◌, false, take}
use Rattle.std.specs.List.{list_any}
use Rattle.ssim_listing.specs.Marks.{is_like}
use Rattle.ssim_listing.proofs.marks.is_like_one.Given as goal

abbrev pub invariant-loop-other : goal.invariant-loop-other
invariant-loop-other l = list_any (λ other. is_like other l.leg) (take l.other-index l.legs) ≡ false
