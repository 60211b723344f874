-- The flights that are named have their chosen days in the schedule.
use Rattle.std.proofs.Common.{◌≡◌, ◌∙◌, List, ap, map}
use Rattle.ssim_values.specs.Flight.{FlightNumber}
use Rattle.ssim_base.proofs.Results.{if_ok}
use Rattle.ssim_schedule.specs.FlightPieces.{divided, in_order}
use Rattle.ssim_schedule.specs.clauses.Schedule.{days_in}
use Rattle.ssim_schedule.proofs.Divisions.{divided_among_agree}
use Rattle.ssim_desk.specs.Desk.{days_of_desk}
use Rattle.ssim_parts.specs.Chosen.{Choosing, chosen_days}
use Rattle.ssim_program.proofs.command.chosen.some_flights.Goals as goal

pub returns : goal.returns
returns c =
    let choice = c.args.choice.now in
    let schedule = c.in_ok-schedule.schedule in
    let flights : c.deref.result.now ≡ choice.flights =
    c.deref.ensures.value ∙ ap (λ (x : Choosing). x.flights) c.choice.view_is in
    if_ok c.pieces_of.result
    (λ pieces are. are
    ∙ ap (λ (fs : List FlightNumber). map (divided (days_in schedule)) fs)
    (c.deref-2.ensures.value ∙ c.in_ok-flights.ensures ∙ ap in_order flights)
    ∙ divided_among_agree (days_in schedule) (chosen_days choice (days_of_desk c.args.desk.now))
    choice.flights c.in_ok-schedule.ensures)
    c.pieces_of.ensures
