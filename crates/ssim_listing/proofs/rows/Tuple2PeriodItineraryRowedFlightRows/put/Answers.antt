-- The fields of the flight and of the period.
use Rattle.std.proofs.Common.{◌∙◌, ◌++◌, ◌∷◌, [], ap}
use Rattle.std.proofs.lemmas.Result.{on_ok_weaker}
use Rattle.std.specs.List.{flat_map}
use Rattle.ssim_values.specs.DayMask.{digits_of}
use Rattle.ssim_listing.specs.Rows.{iso_date, leg_row}
use Rattle.ssim_listing.proofs.rows.Tuple2PeriodItineraryRowedFlightRows.put.Goals as goal

pub returns : goal.returns
returns c =
    let first = c.iso_date-first.ensures ∙ ap iso_date c.first.ensures.value in
    let last = c.iso_date-last.ensures ∙ ap iso_date c.last.ensures.value in
    let days = c.as_slice.ensures.value
    ∙ c.digits-days.ensures.value ∙ ap digits_of c.mask.ensures.value in
    on_ok_weaker c.put_each.result
    (λ added. added
    ∙ (λ k. c.args.rows.now ++ flat_map (leg_row (c.args.name.now.bytes.now
    ∷ first k ∷ last k ∷ days k ∷ [])) (c.legs.ensures k)))
    c.put_each.ensures
