-- None so far.
use Rattle.std.proofs.Common.{◌≡◌, true, take}
use Rattle.std.specs.List.{list_all}
use Rattle.ssim_overview.specs.internal.SaidRows.{is_steady}
use Rattle.ssim_overview.proofs.station_rows.is_unchanged.Given as goal

abbrev pub invariant-loop-saying : goal.invariant-loop-saying
invariant-loop-saying l = list_all (λ saying. is_steady l.from l.end saying.0) (take l.saying-index l.sayings) ≡ true
