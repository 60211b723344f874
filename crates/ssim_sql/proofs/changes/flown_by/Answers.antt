-- The flights before are those of the data set.
use Rattle.std.proofs.Common.{◌≡◌, ◌∙◌, ap}
use Rattle.ssim_base.specs.BaseSeen.{BaseSeen}
use Rattle.ssim_base.specs.Timetable.{days_of}
use Rattle.ssim_schedule.specs.FlightPieces.{divided_flights}
use Rattle.ssim_schedule.specs.clauses.Schedule.{days_in}
use Rattle.ssim_schedule.proofs.Divisions.{divided_flights_agree}
use Rattle.ssim_desk.specs.Desk.{days_of_desk}
use Rattle.ssim_sql.proofs.changes.flown_by.Goals as goal

pub returns-clause-changes : goal.returns-clause-changes
returns-clause-changes c =
    let before = days_of c.args.desk.base.records in
    let old : c.in_ok-before.before.items ≡ divided_flights before = c.in_ok-before.ensures
    ∙ divided_flights_agree (days_in c.in_ok-of.field-0) before
    (λ g is_flight. c.in_ok-of.ensures.days g is_flight
    ∙ ap (λ (b : BaseSeen). days_of b.records g) c.base.ensures) in
    c.in_ok-changes.ensures before (days_of_desk c.args.desk) old
    (c.deref.ensures.value ∙ c.in_ok-flights.ensures)
