-- The set has exactly the flights of the list.
use Rattle.std.proofs.Common.{Result, Ok, Err, IfOk, ◌∙◌}
use Rattle.ssim_base.specs.Timetable.{is_among}
use Rattle.ssim_schedule.specs.internal.FlightSet.{is_marked}
use Rattle.ssim_schedule.proofs.Divisions.{filter_agree_on}
use Rattle.ssim_schedule.proofs.export.flights.flights_in_order.Goals as goal

if_ok : {T E : Type 0} {P Q : T → Type 0} (r : Result T E) → ((x : T) → P x → Q x) → IfOk r P → IfOk r Q
if_ok (Ok x) f p = f x p
if_ok (Err e) f p = p

pub returns : goal.returns
returns c =
    if_ok c.flights.result (λ ordered is. is ∙ filter_agree_on (is_marked c.in_ok-set.set.marks.items) (is_among c.args.flights.now) c.in_ok-set.ensures) c.flights.ensures
