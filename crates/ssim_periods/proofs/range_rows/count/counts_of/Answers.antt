-- Each day of the period counts under one class.
use Rattle.std.proofs.Common.{◌∙◌, ℕ, refl, ap}
use Rattle.ssim_periods.specs.Calendar.{holds}
use Rattle.ssim_periods.specs.Days.{counts_on, each_day}
use Rattle.ssim_periods.proofs.HeldCounts.{counts-of-period}
use Rattle.ssim_periods.proofs.PeriodDays.{counted}
use Rattle.ssim_periods.proofs.range_rows.count.counts_of.Goals as goal

pub returns : goal.returns
returns g c =
    let p = c.args.period.now in
    counts-of-period p c.class.result c.number_of_days.result _ c.class.ensures.below_five (c.number_of_days.ensures ∙ counted (holds p)) refl
    ∙ ap (λ class. counts_on {V = ℕ} (holds p) (λ _. class) (each_day (λ _. 0))) c.class.ensures.class
