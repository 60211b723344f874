-- The legs of each date rise, by what always holds of a schedule.
use Rattle.std.proofs.Common.{sym, subst}
use Rattle.ssim_base.specs.Timetable.{Above, Legs}
use Rattle.ssim_base.proofs.Calendars.{in_calendar}
use Rattle.ssim_schedule.proofs.schedule.Schedule.itinerary.Goals as goal

pub returns-clause-in_order : goal.returns-clause-in_order
returns-clause-in_order c =
    subst (λ (legs : Legs). Above 0 legs) (sym c.itinerary.ensures)
    (c.self.invariant.rising c.args.flight.now c.args.day c.place.ensures.flight (in_calendar c.number.result c.args.day c.number.ensures.value c.number.ensures.bound))
