-- One flight more.
use Rattle.std.proofs.Common.{◌∙◌, ◌+◌, ◌||◌, List, take, sym, ap, subst}
use Rattle.std.proofs.lemmas.List.Folds.{list_any_more}
use Rattle.ssim_schedule.specs.clauses.Schedule.{days_in}
use Rattle.ssim_values.specs.Flight.{FlightNumber}
use Rattle.ssim_difference.specs.Differences.{Compared, DifferencePiece}
use Rattle.ssim_outbox.specs.internal.Drafts.{Settles, dates_of_flights, dates_of_pieces}
use Rattle.ssim_outbox.proofs.Settling.{fewer, one_after}
use Rattle.ssim_outbox.proofs.single_dates.settle_flights.Goals as goal

pub loop-flight-preserved : goal.loop-flight-preserved
loop-flight-preserved c is =
    let rows = c.args.rows.now in
    let from = days_in c.args.from.now in let to = days_in c.args.to.now in
    let flights = c.args.flights.now in let i = c.loop-flight.flight-index in
    let flight = c.flight-item.result in
    let begun = c.loop-flight.invariant is in
    let next : Settles rows from to (dates_of_pieces flight.0 flight.1) c.loop-flight.draft
    c.settle_pieces.new.draft =
    subst (λ (f : FlightNumber). Settles rows from to (dates_of_pieces f flight.1) c.loop-flight.draft
    c.settle_pieces.new.draft) (c.in_ok-change.ensures.flight ∙ c.flight.ensures)
    (subst (λ (ps : List DifferencePiece). Settles rows from to
    (dates_of_pieces c.in_ok-change.change.flight ps) c.loop-flight.draft c.settle_pieces.new.draft)
    c.pieces.ensures
    (c.in_ok-settle_pieces.ensures from to c.in_ok-change.ensures.days begun.draft)) in
    fewer rows from to
    (λ g n. dates_of_flights (take i flights) g n || dates_of_pieces flight.0 flight.1 g n)
    (dates_of_flights (take (i + 1) flights)) c.args.draft.now c.settle_pieces.new.draft
    (λ g n _ _ h. sym (list_any_more (λ (f : Compared). dates_of_pieces f.0 f.1 g n) flights i flight
    c.loop-flight-test.true
    ∙ ap (λ (f : Compared). dates_of_flights (take i flights) g n || dates_of_pieces f.0 f.1 g n)
    (sym c.flight-item.is)) ∙ h)
    (one_after rows from to (dates_of_flights (take i flights)) (dates_of_pieces flight.0 flight.1)
    c.args.draft.now c.loop-flight.draft c.settle_pieces.new.draft begun next)
