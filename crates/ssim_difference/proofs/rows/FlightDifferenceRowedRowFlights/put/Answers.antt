-- The pieces of the flight, under its name.
use Rattle.std.proofs.Common.{◌∙◌, ◌++◌, ap}
use Rattle.std.specs.List.{flat_map}
use Rattle.std.proofs.lemmas.Result.{on_ok_weaker}
use Rattle.ssim_listing.specs.Lines.{flight_name}
use Rattle.ssim_difference.specs.Rows.{piece_rows}
use Rattle.ssim_difference.proofs.rows.FlightDifferenceRowedRowFlights.put.Goals as goal

pub returns : goal.returns
returns c =
    let name = c.as_slice.ensures.value
    ∙ c.name_of-name.ensures ∙ ap (flight_name c.args.flights.now.airline) c.flight.ensures in
    on_ok_weaker c.put_each.result
    (λ added. added
    ∙ (λ k. c.args.rows.now ++ flat_map (piece_rows (name k)) (c.pieces.ensures k)))
    c.put_each.ensures
