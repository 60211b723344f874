use Rattle.std.proofs.Common.{◌≡◌, ℕ, take}
use Rattle.std.specs.List.{list_any}
use Rattle.ssim_periods.specs.Calendar.{holds}
use Rattle.ssim_base.specs.internal.Dates.{has_date}
use Rattle.ssim_base.proofs.leg_table.used_dates.set_of.Given as goal

abbrev pub invariant-loop-period : goal.invariant-loop-period
invariant-loop-period l = (n : ℕ) → has_date l.set.words.items n ≡ list_any (λ p. holds p n) (take l.period-index l.periods)
