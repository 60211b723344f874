-- The legs are those of the piece.
use Rattle.std.proofs.Common.{◌≡◌, ◌++◌, List, ℕ, OnOk, subst}
use Rattle.std.specs.List.{flat_map}
use Rattle.ssim_sql.specs.internal.Rows.{rows_in}
use Rattle.ssim_sql.specs.internal.Tables.{script_with}
use Rattle.ssim_sql.proofs.flights.Tuple2PeriodItineraryRowedFlightOf.put.Goals as goal

pub returns : goal.returns
returns c =
    let of = c.args.of.now in
    subst (λ (rows : List (List ℕ)). OnOk c.put_each.result ((later : List (List ℕ))
    → script_with c.put_each.new.table later ≡ script_with c.args.table.now (rows ++ later)))
    (λ k. flat_map (rows_in of.table of.name.now of.mode of.flight.now c.args.self.now.0)
    (c.legs.ensures k)) c.put_each.ensures
