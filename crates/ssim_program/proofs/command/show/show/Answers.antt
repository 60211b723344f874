-- The words name flights and a date, or not.
use Rattle.std.proofs.Common.{◌≡◌, ◌∙◌, ◌<◌, Err, List, ℕ, Ok, ap, inl, inr, map, subst, true}
use Rattle.std.proofs.lemmas.Result.{err_from_is_err_and}
use Rattle.ssim_values.specs.Flight.{FlightNumber, IsFlight}
use Rattle.ssim_base.proofs.Calendars.{at-each_day}
use Rattle.ssim_base.specs.Base.{airline_of}
use Rattle.ssim_base.specs.Timetable.{Days, Legs, is_among, on_day}
use Rattle.ssim_periods.proofs.DayLemmas.{day_count-is}
use Rattle.ssim_periods.specs.Days.{each_day}
use Rattle.ssim_schedule.specs.FlightPieces.{in_order}
use Rattle.ssim_schedule.specs.clauses.Schedule.{days_in}
use Rattle.ssim_desk.specs.Desk.{timetable_of}
use Rattle.ssim_program.specs.Messages.{flights_on}
use Rattle.ssim_program.specs.print.Blocks.{blocks}
use Rattle.ssim_program.specs.print.Shown.{shown_flight, shown_on}
use Rattle.ssim_program.proofs.ChosenDates.{mapped_agree}
use Rattle.ssim_program.proofs.command.show.show.Goals as goal

pub returns-in_err-named-clause-answer : goal.returns-in_err-named-clause-answer
returns-in_err-named-clause-answer g c =
    let why = c.in_err-named.field-0.0 in
    let here = c.airline-airline.ensures ∙ ap airline_of c.data_set.ensures in
    let from = err_from_is_err_and c.from_residual-in_err-named.result
    c.from_residual-in_err-named.ensures.1 in
    let is : c.from_residual-in_err-named.result ≡ Err why = from.1 ∙ ap Err from.2 in
    rw is (inr (
      c.in_ok-desk.desk,
      c.in_ok-desk.ensures.answer,
      inl (subst (λ (a : List ℕ). flights_on a c.args.flight.now
          (map (λ t. t.now) c.args.words.now) (Err why)) here c.in_err-named.ensures.err),
    ))

-- each flight is read from its own days
same_shown : (airline : List ℕ) (days : FlightNumber → Days) (legs : FlightNumber → ℕ → Legs)
    (day : ℕ) → day < 36525 → (flights : List FlightNumber)
    → ((g : FlightNumber) → IsFlight g → is_among flights g ≡ true → days g ≡ each_day (legs g))
    → map (shown_on airline (λ g n. on_day (days g) n) day) (in_order flights)
    ≡ map (shown_on airline legs day) (in_order flights)
same_shown airline days legs day within flights same =
    mapped_agree (shown_on airline (λ g n. on_day (days g) n) day) (shown_on airline legs day)
    flights
    (λ g is among. ap (shown_flight (record { airline = airline; flight = g }) day)
    (ap (λ (ds : Days). on_day ds day) (same g is among)
    ∙ at-each_day (legs g) day (rw day_count-is within)))

pub returns-clause-answer : goal.returns-clause-answer
returns-clause-answer g c =
    let desk = c.in_ok-desk.desk in
    let numbers = c.in_ok-named.named.items in
    let day = c.in_ok-named.day in
    let airline = c.airline-airline.result in
    let here = c.airline-airline.ensures ∙ ap airline_of c.data_set.ensures in
    let within : day < 36525 =
    subst (λ n. n < 36525) c.number.ensures.value c.number.ensures.bound in
    let days = days_in c.in_ok-schedule.schedule in
    let shown = shown_on airline (λ g n. on_day (days g) n) day in
    let ordered =
    c.deref-3.ensures.value ∙ c.in_ok-flights.ensures ∙ ap in_order c.deref.ensures.value in (
      desk,
      c.in_ok-desk.ensures.answer,
      (
        (numbers, day),
        subst (λ (a : List ℕ). flights_on a c.args.flight.now
            (map (λ t. t.now) c.args.words.now) (Ok (numbers, day))) here c.in_ok-named.ensures.ok,
        c.in_ok-lines.ensures
            ∙ ap blocks (ap (map (λ b. b.items)) c.deref-4.ensures.value ∙ c.in_ok-shown.ensures
            ∙ ap (map shown) ordered
            ∙ same_shown airline days (timetable_of desk) day within numbers
            (λ g is among. c.in_ok-schedule.ensures g is
            (ap (λ (fs : List FlightNumber). is_among fs g) c.deref-2.ensures.value ∙ among)))
            ∙ ap (λ (a : List ℕ). blocks (map (shown_on a (timetable_of desk) day)
            (in_order numbers))) here,
      ),
    )
