-- All flights have their chosen days, which are all if nothing is left out.
use Rattle.std.proofs.Common.{◌≡◌, ◌∙◌, ap}
use Rattle.ssim_values.specs.Flight.{FlightNumber, IsFlight}
use Rattle.ssim_periods.specs.Days.{each_day}
use Rattle.ssim_base.proofs.Results.{if_ok}
use Rattle.ssim_base.specs.Timetable.{Days, on_day}
use Rattle.ssim_schedule.specs.clauses.Schedule.{days_in}
use Rattle.ssim_schedule.proofs.Divisions.{divided_flights_agree}
use Rattle.ssim_desk.specs.Desk.{days_of_desk, timetable_of}
use Rattle.ssim_parts.specs.Chosen.{chosen_days, chosen_legs}
use Rattle.ssim_program.proofs.ChosenDates.{days_stay, none_chosen}
use Rattle.ssim_program.proofs.command.chosen.all_flights.Goals as goal

pub returns-then-has_all : goal.returns-then-has_all
returns-then-has_all c =
    let choice = c.args.choice.now in
    let desk = c.args.desk in
    let all = c.has_all.ensures c.if-has_all.true in
    if_ok c.into_flights.result
    (λ flights are. are ∙ divided_flights_agree (days_of_desk desk)
    (chosen_days choice (days_of_desk desk))
    (λ g is. days_stay choice all.1 g (none_chosen choice.flights g all.0)
    (timetable_of desk g)))
    c.into_flights.ensures

pub returns : goal.returns
returns c =
    let choice = c.args.choice.now in
    let desk = c.args.desk in
    let schedule = c.choose.new.schedule in
    if_ok c.into_flights-2.result
    (λ flights are. are ∙ divided_flights_agree (days_in schedule)
    (chosen_days choice (days_of_desk desk))
    (λ g is. c.in_ok-choose.ensures g is
    ∙ ap (λ (ds : Days). each_day (λ n. chosen_legs choice g n (on_day ds n)))
    (c.in_ok-schedule.ensures g is)))
    c.into_flights-2.ensures
