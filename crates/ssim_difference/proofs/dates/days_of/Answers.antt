-- The change counts each day of the period, of an empty calendar, in its class 0.
use Rattle.std.proofs.Common.{◌∙◌, ℕ, List, ap, slice_index_or}
use Rattle.ssim_periods.specs.Calendar.{day_count, holds}
use Rattle.ssim_periods.specs.Days.{count_on}
use Rattle.ssim_difference.specs.Differences.{no_difference}
use Rattle.ssim_difference.specs.declared.difference.Difference.{Difference}
use Rattle.ssim_difference.proofs.DateCounts.{counted}
use Rattle.ssim_difference.proofs.dates.days_of.Goals as goal

pub returns : goal.returns
returns c =
    let is_in = holds c.args.period.now in
    ap (λ (ns : List ℕ). slice_index_or ns 0 0) c.in_ok-counts.ensures.counts
    ∙ ap (λ (days : List Difference). count_on is_in (λ _. 0) 0 0 days) c.new-days.ensures.days
    ∙ counted is_in no_difference 0 day_count
