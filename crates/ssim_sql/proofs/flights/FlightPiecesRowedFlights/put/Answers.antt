-- The name and the pieces are those of the flight.
use Rattle.std.proofs.Common.{◌≡◌, ◌∙◌, ◌++◌, List, ℕ, OnOk, ap, subst}
use Rattle.std.specs.List.{flat_map}
use Rattle.ssim_listing.specs.Lines.{flight_name}
use Rattle.ssim_sql.specs.internal.Rows.{piece_rows, rows_in}
use Rattle.ssim_sql.specs.internal.Tables.{script_with}
use Rattle.ssim_sql.proofs.flights.FlightPiecesRowedFlights.put.Goals as goal

pub returns : goal.returns
returns c =
    let of = c.args.of.now in
    let name = c.as_slice.ensures.value
    ∙ c.name_of-flight.ensures ∙ ap (flight_name of.airline) c.flight.ensures in
    subst (λ (rows : List (List ℕ)). OnOk c.put_each.result ((later : List (List ℕ))
    → script_with c.put_each.new.table later ≡ script_with c.args.table.now (rows ++ later)))
    (λ k. flat_map (piece_rows (rows_in of.table) of.name.now of.mode (name k)) (c.pieces.ensures k))
    c.put_each.ensures
