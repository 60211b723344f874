-- What is said so far.
use Rattle.std.proofs.Common.{◌≡◌, take}
use Rattle.ssim_periods.specs.Pieces.{held_on}
use Rattle.ssim_overview.proofs.station_rows.held_on.Given as goal

abbrev pub invariant-loop-saying : goal.invariant-loop-saying
invariant-loop-saying l = l.held.items ≡ held_on (take l.saying-index l.sayings) l.day
