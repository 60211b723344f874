-- The name and the pieces are those of the flight.
use Rattle.std.proofs.Common.{◌∙◌, ◌++◌, ap}
use Rattle.std.proofs.lemmas.Result.{on_ok_weaker}
use Rattle.ssim_listing.specs.Lines.{flight_name}
use Rattle.ssim_listing.specs.internal.Divisions.{divided_rows}
use Rattle.ssim_listing.proofs.rows.FlightPiecesRowedLayout.put.Goals as goal

pub returns : goal.returns
returns c =
    let layout = c.args.layout.now in
    let name = c.as_slice.ensures.value
    ∙ c.name_of-name.ensures ∙ ap (flight_name layout.airline) c.flight.ensures in
    on_ok_weaker c.put_flight.result
    (λ added. added
    ∙ (λ k. c.args.rows.now ++ divided_rows layout.division (name k) (c.pieces.ensures k)))
    c.put_flight.ensures
