-- What is said on the days so far.
use Rattle.std.proofs.Common.{◌≡◌, ◌-◌, map}
use Rattle.std.specs.List.{range_with_len}
use Rattle.ssim_periods.specs.Pieces.{held_on}
use Rattle.ssim_overview.specs.SaidRows.{said}
use Rattle.ssim_overview.proofs.station_rows.week.Given as goal

abbrev pub invariant-loop-day : goal.invariant-loop-day
invariant-loop-day l =
    l.week.items ≡ map (λ n. said (held_on l.sayings n)) (range_with_len l.from (l.day - l.from))
