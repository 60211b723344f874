-- One flight more.
use Rattle.std.proofs.Common.{◌∙◌, ◌+◌, List, ap, take}
use Rattle.ssim_base.specs.Export.{Piece}
use Rattle.ssim_parts.specs.internal.Counted.{all_dates, any_legs, capped, dates_in}
use Rattle.ssim_parts.proofs.CountedDates.{next_flight, one_more}
use Rattle.ssim_parts.proofs.date_counts.flown_dates.Goals as goal

pub loop-flight-preserved : goal.loop-flight-preserved
loop-flight-preserved c =
    let flights = c.args.flights.now in
    let i = c.loop-flight.flight-index in
    let flight = c.flight-item.result in
    one_more _ _ _ (all_dates any_legs (take i flights)) (dates_in any_legs flight.1)
    (all_dates any_legs (take (i + 1) flights)) c.loop-flight.invariant
    (c.dates_of_pieces.ensures
    ∙ ap (λ (ps : List Piece). capped (dates_in any_legs ps)) c.pieces.ensures)
    c.saturating_add-count.ensures
    (next_flight any_legs flights i flight c.loop-flight-test.true c.flight-item.is)
