-- Which actions and sub-messages act on every date that they name, so that whoever takes them finds
-- nothing of them that did not act: on no date does the flight not fly, or fly already, and no leg
-- and no UTC variation of a station is missing.
use Rattle.std.specs.Prelude.{◌≡◌, ℕ, ◌<◌, ◌&&◌, true, List, [], ◌∷◌}
use Rattle.ssim_values.specs.Flight.{FlightNumber, IsFlight}
use Rattle.ssim_periods.specs.Calendar.{day_count, holds}
use Rattle.ssim_text.specs.declared.action.Action.{Action}
use Rattle.ssim_base.specs.Stations.{Row}
use Rattle.ssim_base.specs.Timetable.{Days, Legs, on_day, same_flight}
use Rattle.ssim_schedule.specs.Acts.{class_on, itinerary_after}
use Rattle.ssim_outbox.specs.declared.planned_sub.PlannedSub.{PlannedSub}

-- an action acts on what a flight has on a day: its reason is `Acted`, which is of class 0
abbrev pub DoesAct : List Row → Action → ℕ → Legs → Type 0
DoesAct rows action day legs = class_on rows action day legs ≡ 0

-- of sub-messages, one after another, each that names the flight, and whose period holds the day,
-- acts on what those before it leave
abbrev pub ActOn : List Row → List PlannedSub → FlightNumber → ℕ → Legs → Type 0
ActOn rows [] flight day legs = Unit {0}
ActOn rows (sub ∷ subs) flight day legs =
    ((same_flight sub.flight flight && holds sub.period day) ≡ true
    → DoesAct rows sub.action day legs)
    × ActOn rows subs flight day
    (itinerary_after rows sub.action sub.flight sub.period flight day legs)

-- The sub-messages act in the timetable, one after another, on every date that they name.
abbrev pub ActOnTheirDates : List Row → List PlannedSub → (FlightNumber → Days) → Type 0
ActOnTheirDates rows subs old =
    (flight : FlightNumber) (day : ℕ) → IsFlight flight → day < day_count
    → ActOn rows subs flight day (on_day (old flight) day)
