-- All so far say it.
use Rattle.std.proofs.Common.{◌≡◌, true, take}
use Rattle.std.specs.List.{list_all}
use Rattle.ssim_overview.specs.SaidRows.{is_same}
use Rattle.ssim_overview.proofs.station_rows.is_only.Given as goal

abbrev pub invariant-loop-saying : goal.invariant-loop-saying
invariant-loop-saying l =
    list_all (λ saying. is_same saying.1.variation l.variation) (take l.saying-index l.sayings) ≡ true
