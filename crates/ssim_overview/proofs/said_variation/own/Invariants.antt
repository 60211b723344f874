-- Those so far that are on their date.
use Rattle.std.proofs.Common.{◌≡◌, filter, take}
use Rattle.ssim_overview.proofs.said_variation.own.Given as goal

abbrev pub invariant-loop-saying : goal.invariant-loop-saying
invariant-loop-saying l = l.own.items ≡ filter (λ s. s.is_own) (take l.saying-index l.sayings)
