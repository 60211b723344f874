-- One flight more.
use Rattle.ssim_schedule.specs.clauses.Schedule.{days_in}
use Rattle.ssim_outbox.proofs.flight_periods.add_flights.Goals as goal

pub loop-flight-preserved : goal.loop-flight-preserved
loop-flight-preserved c is =
    c.in_ok-add_periods.ensures (days_in c.args.from.now) (days_in c.args.to.now)
    c.in_ok-change.ensures.days (c.loop-flight.invariant is)
