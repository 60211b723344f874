-- Each value is that of the period.
use Rattle.std.proofs.Common.{◌∷◌, []}
use Rattle.ssim_values.specs.DayMask.{digits_of}
use Rattle.ssim_listing.specs.Rows.{iso_date}
use Rattle.ssim_sql.specs.Literal.{quote}
use Rattle.ssim_sql.proofs.leg_rows.period_values.Goals as goal

pub returns : goal.returns
returns c =
    let first = c.first.ensures.value in let last = c.last.ensures.value in
    let days = c.mask.ensures.value in
    λ k. quote c.args.flight.now ∷ quote (iso_date (first k)) ∷ quote (iso_date (last k))
    ∷ quote (digits_of (days k)) ∷ []
