-- The names of the columns, and then the rows of the flights.
use Rattle.std.proofs.Common.{◌∙◌, ◌++◌, List, ℕ, ap}
use Rattle.std.specs.List.{flat_map}
use Rattle.std.proofs.lemmas.Result.{IfOk-weaker}
use Rattle.ssim_schedule.specs.FlightPieces.{Divided}
use Rattle.ssim_listing.specs.Lines.{flight_name}
use Rattle.ssim_listing.specs.Rows.{header, row}
use Rattle.ssim_listing.specs.internal.Divisions.{divided_rows}
use Rattle.ssim_listing.proofs.rows.rows_of.Goals as goal

pub returns : goal.returns
returns c =
    let rows : Divided → List ℕ =
    λ flight. divided_rows c.args.division (flight_name c.args.airline flight.0) flight.1 in
    let names = c.in_ok-push_leg_names.ensures ∙ ap (λ (bs : List ℕ). bs ++ row header) c.new-rows.ensures in
    IfOk-weaker c.into_bytes.result _ _
    (λ bytes of. of
    ∙ c.in_ok-put_each.ensures
    ∙ ap (λ (bs : List ℕ). bs ++ flat_map rows c.args.flights.now) names)
    c.into_bytes.ensures
