-- The fields of the flight and of the date.
use Rattle.std.proofs.Common.{◌∙◌, ◌+◌, ◌++◌, ◌∷◌, []}
use Rattle.std.proofs.lemmas.Result.{on_ok_weaker}
use Rattle.std.specs.List.{flat_map}
use Rattle.ssim_listing.specs.Rows.{leg_row}
use Rattle.ssim_listing.proofs.rows.Tuple2DayRefItineraryRowedFlightRows.put.Goals as goal

pub returns : goal.returns
returns c =
    let name = c.args.name.now.bytes.now in let date = c.iso_date-date.ensures in
    on_ok_weaker c.put_each.result
    (λ added. added
    ∙ (λ k. c.args.rows.now ++ flat_map (leg_row (name ∷ date k ∷ date k
    ∷ ((48 + c.weekday.ensures k) ∷ []) ∷ [])) (c.legs.ensures k)))
    c.put_each.ensures
