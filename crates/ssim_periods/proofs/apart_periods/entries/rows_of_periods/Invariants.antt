-- The days of the earlier periods have marks.
use Rattle.std.proofs.Common.{◌≡◌, take}
use Rattle.ssim_periods.specs.internal.Apart.{mark_on}
use Rattle.ssim_periods.specs.Days.{each_day}
use Rattle.ssim_periods.proofs.apart_periods.entries.rows_of_periods.Given as goal

abbrev pub invariant-loop-period : goal.invariant-loop-period
invariant-loop-period l = l.rows.days ≡ each_day (mark_on (take l.period-index l.periods))
