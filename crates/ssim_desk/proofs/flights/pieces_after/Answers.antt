-- The schedule has at the flights of the list what the messages leave.
use Rattle.std.proofs.Common.{List, map, ap, ◌∙◌}
use Rattle.ssim_values.specs.Flight.{FlightNumber}
use Rattle.ssim_base.proofs.Results.{if_ok}
use Rattle.ssim_periods.specs.Days.{each_day}
use Rattle.ssim_schedule.specs.FlightPieces.{divided}
use Rattle.ssim_schedule.specs.clauses.Schedule.{days_in}
use Rattle.ssim_schedule.proofs.Divisions.{divided_among_agree}
use Rattle.ssim_desk.specs.Meaning.{left_by}
use Rattle.ssim_desk.proofs.flights.pieces_after.Goals as goal

pub returns : goal.returns
returns c =
    let base = c.args.base.now in
    let messages = c.args.messages.now in
    let flights = c.args.flights.now in
    let schedule = c.in_ok-schedule.schedule in
    if_ok c.pieces_of.result
    (λ pieces are.
    are ∙ ap (λ (fs : List FlightNumber). map (divided (days_in schedule)) fs) (c.deref.ensures.value ∙ c.in_ok-ordered.ensures)
    ∙ divided_among_agree (days_in schedule) (λ g. each_day (left_by base messages g)) flights c.in_ok-schedule.ensures)
    c.pieces_of.ensures
