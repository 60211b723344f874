-- The rows of one flight more.
use Rattle.std.proofs.Common.{◌≡◌, ◌∙◌, ◌++◌, ◌∷◌, ◌+◌, ℕ, List, [], ap, ap₂, sym, take}
use Rattle.std.specs.List.{flat_map}
use Rattle.std.proofs.lemmas.List.{flat_map_more, take_more}
use Rattle.ssim_values.specs.Flight.{FlightNumber}
use Rattle.ssim_base.specs.Timetable.{Legs, itinerary}
use Rattle.ssim_listing.specs.Rows.{row}
use Rattle.ssim_desk.specs.DateSteps.{steps_on}
use Rattle.ssim_desk.specs.declared.date_step.DateStep.{DateStep}
use Rattle.ssim_program.specs.print.HistoryRows.{history_names, history_rows, history_rows_on}
use Rattle.ssim_program.proofs.command.history.rows_of.Goals as goal

pub loop-flight-preserved : goal.loop-flight-preserved
loop-flight-preserved c =
    let airline = c.args.airline in
    let day = c.args.day in
    let flights = c.args.flights.now in
    let i = c.loop-flight.flight-index in
    let flight = c.flight-item.result in
    let rows : FlightNumber → List ℕ =
    history_rows_on airline (itinerary c.args.desk.now.base.records) (steps_on c.args.desk.now) day in
    let names = row history_names in
    let taken : take (i + 1) flights ≡ take i flights ++ flight ∷ [] =
    take_more flights i flight c.loop-flight-test.true
    ∙ ap (λ (f : FlightNumber). take i flights ++ f ∷ []) (sym c.flight-item.is) in
    c.in_ok-push_history.ensures
    ∙ ap₂ (λ (first : Legs) (steps : List DateStep). c.loop-flight.rows
    ++ history_rows (record { airline = airline; flight = flight }) day first steps)
    c.in_ok-history.ensures.first c.in_ok-history.ensures.steps
    ∙ ap (λ (old : List ℕ). old ++ rows flight) c.loop-flight.invariant
    ∙ flat_map_more rows names (take i flights) flight
    ∙ ap (λ (some : List FlightNumber). names ++ flat_map rows some) (sym taken)
