use Rattle.std.proofs.Common.{ℕ, ◌+◌, ◌<◌}
use Rattle.ssim_values.specs.Calendar.{IsDate, day_number}
use Rattle.ssim_values.proofs.day_month.first_in_years.Given as goal

-- in each earlier year the day lies before `from`
abbrev pub invariant-loop-year : goal.invariant-loop-year
invariant-loop-year l = (y : ℕ) → y < 2000 + l.year → IsDate y l.month l.day → day_number y l.month l.day < l.from
