-- Each value is that of the record.
use Rattle.std.proofs.Common.{◌∷◌, []}
use Rattle.std.specs.Fmt.{decimal}
use Rattle.ssim_listing.specs.Rows.{iso_date}
use Rattle.ssim_sql.specs.Literal.{quote}
use Rattle.ssim_sql.proofs.segment_rows.segment_values.Goals as goal

pub returns : goal.returns
returns c = λ k.
    quote c.args.flight.now ∷ quote (iso_date c.args.first) ∷ decimal c.args.sequence
    ∷ decimal c.args.number ∷ quote (c.trimmed.ensures k) ∷ quote (c.trimmed-2.ensures k)
    ∷ quote (c.trimmed-3.ensures k) ∷ quote (c.without_end.ensures k) ∷ []
