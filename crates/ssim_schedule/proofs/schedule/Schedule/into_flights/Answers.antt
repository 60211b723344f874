-- The plan of the schedule has its flights, and those that fly are those of all flights.
use Rattle.std.proofs.Common.{◌≡◌, Result, Ok, Err, IfOk, ap, subst, ◌∙◌}
use Rattle.std.specs.List.{All}
use Rattle.ssim_values.specs.Flight.{IsFlight}
use Rattle.ssim_schedule.specs.FlightPieces.{divided_flights}
use Rattle.ssim_schedule.specs.clauses.Schedule.{Flown, days_in}
use Rattle.ssim_schedule.specs.internal.Plan.{plan_of}
use Rattle.ssim_schedule.specs.internal.Table.{Table}
use Rattle.ssim_schedule.proofs.Divisions.{flying-all}
use Rattle.ssim_schedule.proofs.schedule.Schedule.into_flights.Goals as goal

if_ok : {T E : Type 0} {P Q : T → Type 0} (r : Result T E) → ((x : T) → P x → Q x) → IfOk r P → IfOk r Q
if_ok (Ok x) f p = f x p
if_ok (Err e) f p = p

pub returns : goal.returns
returns c =
    let table = c.self.inside.table in
    let plan = c.in_ok-plan.plan.items in
    let is : plan ≡ plan_of table = c.in_ok-plan.ensures.plan ∙ ap plan_of c.into_blocks.ensures.value in
    let exist = subst (λ (fs : Table). All (λ f. IsFlight f.flight) fs) c.into_blocks.ensures.value c.in_ok-plan.ensures.flights in
    if_ok c.flying.result
    (λ flights flying. flying ∙ flying-all table plan c.into_blocks.ensures.rising exist is ∙ ap (λ (f : Flown). divided_flights (days_in f)) c.self.view_is)
    c.flying.ensures
