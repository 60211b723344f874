-- The rows of flights are those of their legs, in both tables.
use Rattle.std.proofs.Common.{◌≡◌, ◌∙◌, ◌++◌, List, ℕ, ap}
use Rattle.std.specs.List.{flat_map}
use Rattle.ssim_base.proofs.Results.{if_ok}
use Rattle.ssim_listing.proofs.Joining.{joined}
use Rattle.ssim_sql.specs.LegRows.{RowsOfLeg, flight_rows, one_row}
use Rattle.ssim_sql.specs.Script.{flight_statements}
use Rattle.ssim_sql.specs.SegmentRows.{segment_rows}
use Rattle.ssim_sql.specs.Statements.{statements}
use Rattle.ssim_sql.specs.declared.constant.heads.TheConstants.{LEG_HEAD, SEGMENT_HEAD}
use Rattle.ssim_sql.specs.internal.Rows.{pieces_rows}
use Rattle.ssim_sql.proofs.Rows.{of_flights}
use Rattle.ssim_sql.proofs.script.with_flight_rows.Goals as goal

pub returns : goal.returns
unfolding flight_statements
returns c =
    let name = c.args.name.now in let flights = c.args.flights.now in
    let carrier = c.args.carrier.now in
    let rows : (own : RowsOfLeg)
    → flat_map (pieces_rows own name c.time_mode.result c.airline.result) flights
    ≡ flight_rows own name carrier.time_mode carrier.airline flights =
    λ own. of_flights own name c.time_mode.result c.airline.result flights
    ∙ (λ k. flight_rows own name (c.time_mode.ensures k) (c.airline.ensures k) flights) in
    if_ok c.each_after-2.result
    (λ made is. joined c.args.script.items
    (statements LEG_HEAD.now (flight_rows one_row name carrier.time_mode carrier.airline flights))
    (statements SEGMENT_HEAD.now
    (flight_rows segment_rows name carrier.time_mode carrier.airline flights))
    (c.in_ok-script.ensures
    ∙ ap (λ (all : List (List ℕ)). c.args.script.items ++ statements LEG_HEAD.now all) (rows one_row))
    (is ∙ ap (λ (all : List (List ℕ)). c.in_ok-script.script.items ++ statements SEGMENT_HEAD.now all)
    (rows segment_rows)))
    c.each_after-2.ensures
