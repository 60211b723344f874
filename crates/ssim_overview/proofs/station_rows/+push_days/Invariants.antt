-- The half is shorter.
use Rattle.std.proofs.Common.{◌-◌}
use Rattle.ssim_overview.proofs.station_rows.+push_days.Given as goal

abbrev pub decreases-push_days : goal.decreases-push_days
decreases-push_days l = l.end - l.from
