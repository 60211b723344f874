-- The words name flights and a date, or not.
use Rattle.std.proofs.Common.{◌≡◌, ◌∙◌, Err, List, ℕ, Ok, ap, inl, inr, map, rules, subst}
use Rattle.ssim_base.specs.Base.{airline_of}
use Rattle.ssim_base.specs.Timetable.{itinerary}
use Rattle.ssim_schedule.specs.FlightPieces.{in_order}
use Rattle.ssim_desk.specs.DateSteps.{steps_on}
use Rattle.ssim_program.specs.Messages.{flights_on}
use Rattle.ssim_program.specs.print.HistoryRows.{printed_history}
use Rattle.ssim_program.proofs.command.history.history.Goals as goal

pub returns-in_err-named-clause-answer : goal.returns-in_err-named-clause-answer
returns-in_err-named-clause-answer g c =
    let why = c.in_err-named.field-0.0 in
    let here = c.airline-airline.ensures ∙ ap airline_of c.data_set.ensures in
    let is : c.from_residual-in_err-named.result ≡ Err why = search rules in
    rw is (inr (
      c.in_ok-desk.desk,
      c.in_ok-desk.ensures.answer,
      inl (subst (λ (a : List ℕ). flights_on a c.args.flight.now
          (map (λ t. t.now) c.args.words.now) (Err why)) here c.in_err-named.ensures.err),
    ))

pub returns-clause-answer : goal.returns-clause-answer
returns-clause-answer g c =
    let desk = c.in_ok-desk.desk in
    let numbers = c.in_ok-named.named.items in
    let day = c.in_ok-named.day in
    let here = c.airline-airline.ensures ∙ ap airline_of c.data_set.ensures in
    let ordered =
    c.deref-2.ensures.value ∙ c.in_ok-flights.ensures ∙ ap in_order c.deref.ensures.value in (
      desk,
      c.in_ok-desk.ensures.answer,
      (
        (numbers, day),
        subst (λ (a : List ℕ). flights_on a c.args.flight.now
            (map (λ t. t.now) c.args.words.now) (Ok (numbers, day))) here c.in_ok-named.ensures.ok,
        c.in_ok-lines.ensures
            ∙ (λ i. printed_history c.args.csv (here i) (itinerary desk.base.records) (steps_on desk) day
            (ordered i)),
      ),
    )
