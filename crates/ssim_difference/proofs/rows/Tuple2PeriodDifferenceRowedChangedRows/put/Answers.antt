-- The fields of the period, and the legs of both sides.
use Rattle.std.proofs.Common.{◌∙◌, ◌++◌, ◌∷◌, [], ap}
use Rattle.std.proofs.lemmas.Result.{on_ok_weaker}
use Rattle.ssim_values.specs.DayMask.{digits_of}
use Rattle.ssim_listing.specs.Rows.{iso_date}
use Rattle.ssim_difference.specs.Rows.{changed_rows}
use Rattle.ssim_difference.proofs.rows.Tuple2PeriodDifferenceRowedChangedRows.put.Goals as goal

pub returns : goal.returns
returns c =
    let name = c.args.named.now.name.now in
    let first = c.iso_date-first.ensures ∙ ap iso_date c.first.ensures.value in
    let last = c.iso_date-last.ensures ∙ ap iso_date c.last.ensures.value in
    let days = c.as_slice.ensures.value
    ∙ c.digits-days.ensures.value ∙ ap digits_of c.mask.ensures.value in
    on_ok_weaker c.push_changed_rows.result
    (λ added. added
    ∙ (λ k. c.args.rows.now
    ++ changed_rows (name ∷ first k ∷ last k ∷ days k ∷ []) (c.legs.ensures k) (c.legs-2.ensures k)))
    c.push_changed_rows.ensures
