-- The words make a choice, or not.
use Rattle.std.proofs.Common.{◌≡◌, ◌∙◌, Err, List, ℕ, Ok, ap, inl, inr, map, rules, subst, true}
use Rattle.ssim_values.specs.Flight.{FlightNumber, IsFlight}
use Rattle.ssim_base.specs.Base.{airline_of}
use Rattle.ssim_base.specs.Timetable.{Days, is_among}
use Rattle.ssim_schedule.specs.FlightPieces.{in_order}
use Rattle.ssim_schedule.specs.clauses.Schedule.{days_in}
use Rattle.ssim_desk.specs.Desk.{days_of_desk}
use Rattle.ssim_parts.specs.Chosen.{Choosing, chosen_days}
use Rattle.ssim_command_line.specs.Line.{choice_line}
use Rattle.ssim_program.specs.Choices.{choice_in}
use Rattle.ssim_program.specs.print.Blocks.{blocks}
use Rattle.ssim_program.specs.print.Calendar.{calendar_lines, calendars, flight_calendar}
use Rattle.ssim_program.proofs.ChosenDates.{mapped_agree}
use Rattle.ssim_program.proofs.command.calendar.calendar.Goals as goal

pub returns-in_err-choice-clause-answer : goal.returns-in_err-choice-clause-answer
returns-in_err-choice-clause-answer g c =
    let why = c.in_err-choice.field-0.0 in
    let here = c.airline-airline.ensures ∙ ap airline_of c.data_set.ensures in
    let is : c.from_residual-in_err-choice.result ≡ Err why = search rules in
    rw is (inr (
      c.in_ok-desk.desk,
      c.in_ok-desk.ensures.read,
      inl (subst (λ (a : List ℕ). choice_in a (choice_line c.args.words.now)
          (map (λ t. t.now) c.args.flights.now) (Err why)) here c.in_err-choice.ensures),
    ))

-- the calendars are read from the days of these flights alone
same_calendars : (airline : List ℕ) (days others : FlightNumber → Days) (flights : List FlightNumber)
    → ((g : FlightNumber) → IsFlight g → is_among flights g ≡ true → days g ≡ others g)
    → map (flight_calendar airline days) (in_order flights)
    ≡ map (flight_calendar airline others) (in_order flights)
same_calendars airline days others flights same =
    mapped_agree (flight_calendar airline days) (flight_calendar airline others) flights
    (λ g is among.
    ap (calendar_lines (record { airline = airline; flight = g })) (same g is among))

pub returns-clause-answer : goal.returns-clause-answer
returns-clause-answer g c =
    let desk = c.in_ok-desk.desk in
    let choice = c.in_ok-choice.choice in
    let airline = c.airline-airline.result in
    let here = c.airline-airline.ensures ∙ ap airline_of c.data_set.ensures in
    let days = days_in c.in_ok-schedule.schedule in
    let chosen = chosen_days choice (days_of_desk desk) in
    let flights : c.deref.result.now ≡ choice.flights =
    c.deref.ensures.value ∙ ap (λ (x : Choosing). x.flights) c.choice.view_is in
    let ordered = c.deref-2.ensures.value ∙ c.in_ok-flights.ensures ∙ ap in_order flights in (
      desk,
      c.in_ok-desk.ensures.read,
      (
        choice,
        subst (λ (a : List ℕ). choice_in a (choice_line c.args.words.now)
            (map (λ t. t.now) c.args.flights.now) (Ok choice)) here c.in_ok-choice.ensures,
        c.in_ok-lines.ensures
            ∙ ap blocks (ap (map (λ b. b.items)) c.deref-3.ensures.value
            ∙ c.in_ok-calendars.ensures ∙ ap (map (flight_calendar airline days)) ordered
            ∙ same_calendars airline days chosen choice.flights c.in_ok-schedule.ensures)
            ∙ ap (λ (a : List ℕ). calendars a chosen (in_order choice.flights)) here,
      ),
    )
