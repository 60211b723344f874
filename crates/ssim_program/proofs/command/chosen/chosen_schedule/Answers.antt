-- The schedule has the days of the flights, and then those that are chosen.
use Rattle.std.proofs.Common.{◌≡◌, ◌∙◌, List, true, ap}
use Rattle.ssim_values.specs.Flight.{FlightNumber}
use Rattle.ssim_periods.specs.Days.{each_day}
use Rattle.ssim_base.specs.Timetable.{Days, is_among, on_day}
use Rattle.ssim_desk.specs.Desk.{timetable_of}
use Rattle.ssim_parts.specs.Chosen.{Choosing, chosen_legs}
use Rattle.ssim_program.proofs.ChosenDates.{among_chosen, days_stay}
use Rattle.ssim_program.proofs.command.chosen.chosen_schedule.Goals as goal

pub returns-then-has_all_dates : goal.returns-then-has_all_dates
returns-then-has_all_dates c = λ g is among.
    let choice = c.args.choice.now in
    let flights : c.deref.result.now ≡ choice.flights =
    c.deref.ensures.value ∙ ap (λ (x : Choosing). x.flights) c.choice.view_is in
    let named = ap (λ (fs : List FlightNumber). is_among fs g) flights ∙ among in
    c.in_ok-schedule.ensures g is named
    ∙ days_stay choice (c.has_all_dates.ensures c.if-has_all_dates.true) g
    (among_chosen choice.flights g among) (timetable_of c.args.desk.now g)

pub returns : goal.returns
returns c = λ g is among.
    let choice = c.args.choice.now in
    let flights : c.deref.result.now ≡ choice.flights =
    c.deref.ensures.value ∙ ap (λ (x : Choosing). x.flights) c.choice.view_is in
    let named = ap (λ (fs : List FlightNumber). is_among fs g) flights ∙ among in
    c.in_ok-choose.ensures g is
    ∙ ap (λ (ds : Days). each_day (λ n. chosen_legs choice g n (on_day ds n)))
    (c.in_ok-schedule.ensures g is named)
