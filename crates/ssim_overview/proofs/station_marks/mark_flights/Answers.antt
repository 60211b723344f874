-- One flight more.
use Rattle.std.proofs.Common.{List, ◌∙◌, ◌+◌, ◌||◌, take, ap, sym}
use Rattle.std.proofs.lemmas.List.Folds.{list_any_more}
use Rattle.ssim_base.specs.Export.{Piece}
use Rattle.ssim_schedule.specs.FlightPieces.{Divided}
use Rattle.ssim_overview.specs.internal.Totals.{is_in_flights, is_in_pieces}
use Rattle.ssim_overview.proofs.StationMarks.{more_marks}
use Rattle.ssim_overview.proofs.station_marks.mark_flights.Goals as goal

pub loop-flight-preserved : goal.loop-flight-preserved
loop-flight-preserved c =
    let flights = c.args.flights.now in let i = c.loop-flight.flight-index in let flight = c.flight-item.result in
    more_marks (is_in_flights (take i flights)) (is_in_pieces c.pieces.result.now)
    (is_in_flights (take (i + 1) flights)) _ c.loop-flight.marks c.mark_pieces.new.marks
    (λ station. list_any_more (λ (f : Divided). is_in_pieces f.1 station) flights i flight c.loop-flight-test.true
    ∙ ap (λ (f : Divided). is_in_flights (take i flights) station || is_in_pieces f.1 station) (sym c.flight-item.is)
    ∙ ap (λ (ps : List Piece). is_in_flights (take i flights) station || is_in_pieces ps station) (sym c.pieces.ensures))
    c.loop-flight.invariant c.mark_pieces.ensures
