-- The itinerary is the one in the flight's periods on the day.
use Rattle.std.proofs.Common.{[], sym, ap, ◌∙◌, slice_index_or}
use Rattle.ssim_base.specs.Timetable.{Days, Legs}
use Rattle.ssim_schedule.proofs.TableLemmas.{index-each_day, index-get}
use Rattle.ssim_schedule.proofs.timetable.flight_table.FlightTable.itinerary.Goals as goal

pub returns-in-Some : goal.returns-in-Some
returns-in-Some c =
    let periods = c.in-Some.periods.now in
    c.legs.ensures
    ∙ sym (index-get periods.days c.args.day [] c.at.result.now c.at.ensures)
    ∙ ap (λ (ds : Days). slice_index_or ds c.args.day []) c.in-Some.ensures.some.0

pub returns-in-None : goal.returns-in-None
returns-in-None c =
    let none : Legs = [] in
    sym (ap (λ (ds : Days). slice_index_or ds c.args.day []) c.in-None.ensures.none.0
    ∙ index-each_day none c.args.day)
