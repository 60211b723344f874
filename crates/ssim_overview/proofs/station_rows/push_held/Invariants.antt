-- The rows by the dates so far.
use Rattle.std.proofs.Common.{◌≡◌, ◌-◌}
use Rattle.std.specs.List.{range_with_len}
use Rattle.ssim_overview.specs.SaidRows.{with_variation}
use Rattle.ssim_overview.specs.internal.HeldEnds.{before_ends}
use Rattle.ssim_overview.specs.internal.SaidRows.{grown}
use Rattle.ssim_overview.proofs.station_rows.push_held.Given as goal

abbrev pub invariant-loop-day : goal.invariant-loop-day
invariant-loop-day l =
    l.rows.items ≡ grown l.station l.initial.rows.items
    (with_variation (before_ends l.ends l.from l.variation) (range_with_len l.from (l.day - l.from)))
