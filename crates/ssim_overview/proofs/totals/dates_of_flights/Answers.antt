-- One flight more.
use Rattle.std.proofs.Common.{◌≡◌, ◌∙◌, ◌+◌, ◌^◌, ◌<◌, List, take, sym, ap, subst}
use Rattle.std.proofs.lemmas.List.Sums.{sum_by_more}
use Rattle.ssim_base.specs.Export.{Piece}
use Rattle.ssim_schedule.specs.FlightPieces.{Divided}
use Rattle.ssim_overview.specs.internal.Totals.{dates_of_flights, dates_of_pieces}
use Rattle.ssim_overview.proofs.FlownDates.{saturated_if}
use Rattle.ssim_overview.proofs.totals.dates_of_flights.Goals as goal

pub loop-flight-preserved : goal.loop-flight-preserved
loop-flight-preserved c fits =
    let flights = c.args.flights.now in let i = c.loop-flight.flight-index in
    let flight = c.flight-item.result in
    let more : dates_of_flights (take (i + 1) flights) ≡ dates_of_flights (take i flights) + dates_of_pieces flight.1 =
    sum_by_more (λ (f : Divided). dates_of_pieces f.1) flights i flight c.loop-flight-test.true
    ∙ ap (λ (f : Divided). dates_of_flights (take i flights) + dates_of_pieces f.1) (sym c.flight-item.is) in
    let is : dates_of_pieces flight.1 < 2 ^ 64 → c.dates_of_pieces.result ≡ dates_of_pieces flight.1 =
    subst (λ (ps : List Piece). dates_of_pieces ps < 2 ^ 64 → c.dates_of_pieces.result ≡ dates_of_pieces ps)
    c.pieces.ensures c.dates_of_pieces.ensures in
    saturated_if c.loop-flight.count c.dates_of_pieces.result c.saturating_add-count.result
    (dates_of_flights (take i flights)) (dates_of_pieces flight.1) (dates_of_flights (take (i + 1) flights))
    c.loop-flight.invariant is c.saturating_add-count.ensures more fits
