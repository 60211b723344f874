-- What a sub-message does to a schedule: to each date of its period by itself.
use Rattle.std.specs.Prelude.{ℕ, ◌+◌, Bool, ◌&&◌, nat_eq, if◌then◌else◌, List, [], ◌∷◌}
use Rattle.ssim_values.specs.Flight.{FlightNumber}
use Rattle.ssim_values.specs.Period.{DayRange}
use Rattle.ssim_periods.specs.Calendar.{holds}
use Rattle.ssim_text.specs.declared.action.Action.{Action}
use Rattle.ssim_schedule.specs.Effect.{class_number, effect}
use Rattle.ssim_base.specs.Stations.{Row}
use Rattle.ssim_base.specs.Timetable.{Days, Legs, same_flight}
use Rattle.ssim_schedule.specs.declared.finding.Finding.{Finding}

-- how many days of the set are of class k
abbrev pub counted_by : (ℕ → Bool) → (ℕ → Legs → ℕ) → ℕ → ℕ → Days → ℕ
counted_by is_in class k n [] = 0
counted_by is_in class k n (old ∷ days) =
    (if is_in n && nat_eq (class n old) k then 1 else 0) + counted_by is_in class k (n + 1) days

-- what a flight has on a day after the action, and the class of its reason
abbrev pub after_on : List Row → Action → ℕ → Legs → Legs
after_on rows action day old = (effect rows action day old).0

-- the class of the reason for what a flight has on a day after the action
abbrev pub class_on : List Row → Action → ℕ → Legs → ℕ
class_on rows action day old = class_number (effect rows action day old).1

-- what flight g has on a day after the sub-message: the effect if it names g and its period holds
-- the day, else the old legs
abbrev pub itinerary_after : List Row → Action → FlightNumber → DayRange → FlightNumber → ℕ → Legs
    → Legs
itinerary_after rows action flight period g day old =
    if same_flight flight g && holds period day then after_on rows action day old else old

-- how many dates of the period get the reason of class k
abbrev pub count_of : List Row → Action → DayRange → Days → ℕ → ℕ
count_of rows action period days k = counted_by (holds period) (class_on rows action) k 0 days

-- the number of dates of the period that get each reason
abbrev pub finding_of : List Row → Action → DayRange → Days → Finding
finding_of rows action period days = record {
  acted = count_of rows action period days 0;
  absent = count_of rows action period days 1;
  present = count_of rows action period days 2;
  leg = count_of rows action period days 3;
  station = count_of rows action period days 4;
}
