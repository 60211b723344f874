-- Where no date is used, a period meets none.
use Rattle.ssim_periods.specs.CommonDays.{have_common_date}
use Rattle.std.proofs.Common.{sym, ap, ◌∙◌}
use Rattle.std.specs.List.{range_with_len}
use Rattle.ssim_periods.specs.Calendar.{day_count, holds}
use Rattle.ssim_base.specs.internal.LegTable.{is_used}
use Rattle.ssim_base.specs.declared.leg_table.used_dates.UsedDates.{UsedDates}
use Rattle.ssim_base.proofs.DateLemmas.{any-none}
use Rattle.ssim_base.proofs.leg_table.used_dates.UsedDates.meets.Goals as goal

pub returns-in-Empty : goal.returns-in-Empty
returns-in-Empty c =
    let p = c.args.period.now in
    sym (any-none (holds p) (range_with_len 0 day_count)) ∙ ap (λ (dates : UsedDates). have_common_date (holds p) (is_used dates)) (sym c.in-Empty.is)
