-- Nothing that came so far is said before the first day, or after the last one.
use Rattle.std.proofs.Common.{◌≤◌, take}
use Rattle.ssim_overview.proofs.SaidSpan.{SaidWithin}
use Rattle.ssim_overview.proofs.station_rows.span.Given as goal

abbrev pub invariant-loop-saying : goal.invariant-loop-saying
invariant-loop-saying l = record {
  others : SaidWithin (take l.saying-index l.sayings) l.from l.end;
  within : l.end ≤ 36525;
}
