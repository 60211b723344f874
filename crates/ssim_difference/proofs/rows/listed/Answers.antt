-- The names, and then the rows of the flights.
use Rattle.std.proofs.Common.{◌∙◌, ◌++◌, List, ℕ, ap}
use Rattle.std.specs.List.{flat_map}
use Rattle.std.proofs.lemmas.Result.{IfOk-weaker}
use Rattle.ssim_listing.specs.Rows.{row}
use Rattle.ssim_difference.specs.Rows.{difference_names, flight_rows}
use Rattle.ssim_difference.proofs.rows.listed.Goals as goal

pub returns : goal.returns
returns c =
    let names = c.in_ok-push_leg_names.ensures
    ∙ ap (λ (bytes : List ℕ). bytes ++ row difference_names) c.new-rows.ensures in
    IfOk-weaker c.into_bytes.result _ _
    (λ bytes of. of
    ∙ c.in_ok-put_each.ensures
    ∙ ap (λ (bytes : List ℕ). bytes ++ flat_map (flight_rows c.args.airline) c.args.flights.now) names)
    c.into_bytes.ensures
