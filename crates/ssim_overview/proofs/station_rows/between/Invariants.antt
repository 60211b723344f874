-- Those so far.
use Rattle.std.proofs.Common.{◌≡◌, filter, take}
use Rattle.ssim_overview.specs.internal.SaidRows.{meets}
use Rattle.ssim_overview.proofs.station_rows.between.Given as goal

abbrev pub invariant-loop-saying : goal.invariant-loop-saying
invariant-loop-saying l = l.found.items ≡ filter (λ saying. meets l.from l.end saying.0) (take l.saying-index l.sayings)
