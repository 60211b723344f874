-- The dates of the pieces are those on which flights differ, and they are few.
use Rattle.std.proofs.Common.{◌≡◌, ◌∙◌, ◌<◌, ◌^◌, ℕ, sym, ap, subst}
use Rattle.ssim_difference.specs.Differences.{date_count}
use Rattle.ssim_difference.specs.internal.Counted.{all_dates}
use Rattle.ssim_difference.proofs.DateCounts.{all_counted, few}
use Rattle.ssim_difference.proofs.dates.date_count.Goals as goal
use Rattle.std.proofs.lemmas.Result.{IfOk-weaker}

pub returns : goal.returns
returns c old new is =
    let total : all_dates c.args.listed.now ≡ date_count old new = ap all_dates is
    ∙ all_counted old new in
    IfOk-weaker c.dates_of_flights.result _ _
    (λ count h. h (subst (λ (n : ℕ). n < 2 ^ 64) (sym total) (few old new))
    ∙ total) c.dates_of_flights.ensures
