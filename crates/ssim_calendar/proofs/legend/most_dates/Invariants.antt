-- The largest number of the letters so far.
use Rattle.std.proofs.Common.{◌≡◌}
use Rattle.ssim_calendar.specs.Legend.{most_dates}
use Rattle.ssim_calendar.proofs.legend.most_dates.Given as goal

abbrev pub invariant-loop-place : goal.invariant-loop-place
invariant-loop-place l = l.most ≡ most_dates l.cells l.place
