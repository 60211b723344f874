-- The timetable in the other time mode, and what no data set of that mode can say.
use Rattle.std.specs.Prelude.{ℕ, ◌+◌, ◌-◌, Bool, nat_eq, if◌then◌else◌, List, []}
use Rattle.std.specs.Prelude.{Option}
use Rattle.ssim_values.specs.declared.time_mode.TimeMode.{TimeMode}
use Rattle.ssim_periods.specs.Calendar.{day_count}
use Rattle.ssim_periods.specs.Cover.{first_where}
use Rattle.ssim_periods.specs.Days.{each_day}
use Rattle.ssim_base.specs.Stations.{Row}
use Rattle.ssim_base.specs.Timetable.{Days, Legs, on_day}
use Rattle.ssim_parts.specs.Fates.{lands_on, left_for}
use Rattle.ssim_parts.specs.MovedLegs.{moved_legs, own_fate}
use Rattle.ssim_parts.specs.declared.fate.Fate.{Fate}
use Rattle.ssim_parts.specs.declared.fate.Fate.TheVariants.{Absent, Kept, Left}
use Rattle.ssim_parts.specs.declared.fate.LeftReason.{LeftReason}
use Rattle.ssim_parts.specs.declared.fate.LeftReason.TheVariants.{Date}

-- ---- one flight, date by date

-- whether the flight date n comes to the new date m, other dates left aside
abbrev pub comes_to : List Row → TimeMode → Days → ℕ → ℕ → Bool
comes_to rows wanted days m n = lands_on m n (own_fate rows wanted n (on_day days n))

-- the itinerary that the flight date n gives to the new date m
abbrev pub legs_for : List Row → TimeMode → Days → ℕ → ℕ → Legs
legs_for rows wanted days m n =
    if comes_to rows wanted days m n then moved_legs rows wanted n (on_day days n) else []

-- the least flight date that comes to the new date m
abbrev pub least_to : List Row → TimeMode → Days → ℕ → ℕ
least_to rows wanted days m = first_where (comes_to rows wanted days m) 0 day_count

-- the itinerary on a new date: the least date that comes to it has it
abbrev pub converted_on : List Row → TimeMode → Days → ℕ → Legs
converted_on rows wanted days m = legs_for rows wanted days m (least_to rows wanted days m)

-- the itineraries of a flight in the new time mode
abbrev pub converted_days : List Row → TimeMode → Days → Days
converted_days rows wanted days = each_day (converted_on rows wanted days)

-- What becomes of date n. It is left for `date` if an earlier date comes to its new date, which then
-- is the least one that does.
abbrev pub fate_among : List Row → TimeMode → Days → ℕ → Fate → Fate
fate_among rows wanted days n Absent = Absent
fate_among rows wanted days n (Left reason) = Left reason
fate_among rows wanted days n (Kept shift) =
    if nat_eq (least_to rows wanted days (n + shift - 1)) n then Kept shift else Left Date

-- what becomes of a date of a flight
abbrev pub fate_on : List Row → TimeMode → Days → ℕ → Fate
fate_on rows wanted days n =
    fate_among rows wanted days n (own_fate rows wanted n (on_day days n))

-- why a flight date is left, if it is
abbrev pub left_on : List Row → TimeMode → Days → ℕ → Option LeftReason
left_on rows wanted days n = left_for (fate_on rows wanted days n)
