-- The rows by the dates so far.
use Rattle.std.proofs.Common.{◌≡◌, ◌-◌}
use Rattle.std.specs.List.{range_with_len}
use Rattle.ssim_overview.specs.SaidRows.{with_variation}
use Rattle.ssim_overview.specs.internal.SaidRows.{by_week, grown}
use Rattle.ssim_overview.proofs.station_rows.push_dates.Given as goal

abbrev pub invariant-loop-day : goal.invariant-loop-day
invariant-loop-day l =
    l.rows.items ≡ grown l.station l.initial.rows.items
    (with_variation (by_week l.week l.from) (range_with_len l.from (l.day - l.from)))
