-- The messages have acted on the timetable of the data set.
use Rattle.std.proofs.Common.{ap, ◌∙◌}
use Rattle.ssim_base.specs.BaseSeen.{base_with}
use Rattle.ssim_base.specs.Timetable.{itinerary}
use Rattle.ssim_base.proofs.Results.{if_ok}
use Rattle.ssim_schedule.specs.FlightPieces.{divided_flights}
use Rattle.ssim_schedule.specs.clauses.Schedule.{days_in}
use Rattle.ssim_schedule.proofs.Divisions.{divided_flights_agree}
use Rattle.ssim_held.specs.Entries.{DeskSeen}
use Rattle.ssim_desk.specs.Desk.{days_of_desk}
use Rattle.ssim_desk.proofs.Exports.{desk_with, left, taken_apart}
use Rattle.ssim_desk.proofs.holdings.Holdings.into_flights.Goals as goal

pub returns : goal.returns
returns c =
    let parts = c.into_parts-data_set.result in
    let held = c.self.inside.held.items in
    let schedule = c.act_in_order.new.schedule in
    let desk = desk_with parts.0 parts.1 held in
    let shows = left (base_with parts.0 parts.1) held c.rows.result.now c.deref.result.now schedule
    c.rows.ensures c.deref.ensures.value
    (c.in_ok-act_in_order.ensures (itinerary parts.0) c.in_ok-schedule.ensures.days) in
    let is = taken_apart parts.0 parts.1 held _ c.args.self c.into_parts-data_set.ensures
    c.self.view_is in
    if_ok c.into_flights.result
    (λ flights result. result ∙ divided_flights_agree (days_in schedule) (days_of_desk desk) shows
    ∙ ap (λ (d : DeskSeen). divided_flights (days_of_desk d)) is)
    c.into_flights.ensures
