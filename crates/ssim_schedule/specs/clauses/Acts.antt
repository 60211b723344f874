-- What a sub-message changes in a schedule, and where it divides the dates of a flight.
use Rattle.std.specs.Prelude.{◌≡◌, ◌⊎◌, ℕ, ◌+◌, Bool, ◌&&◌, ◌||◌, nat_eq, if◌then◌else◌, IsTrue}
use Rattle.std.specs.Prelude.{List, [], ◌∷◌, Contains}
use Rattle.std.specs.List.{list_any}
use Rattle.ssim_values.specs.Flight.{FlightNumber}
use Rattle.ssim_values.specs.Period.{DayRange}
use Rattle.ssim_periods.specs.Calendar.{holds}
use Rattle.std.specs.Str.{bytes_eq}
use Rattle.ssim_text.specs.declared.leg.LegLine.{LegLine}
use Rattle.ssim_text.specs.declared.action.Action.{Action}
use Rattle.ssim_text.specs.declared.action.Action.TheVariants.{New, Cnl, Rpl, Eqt, Tim}
use Rattle.ssim_base.specs.ReadBack.{place_of}
use Rattle.ssim_base.specs.Stations.{Row}
use Rattle.ssim_base.specs.Timetable.{Days, Legs}
use Rattle.ssim_schedule.specs.Acts.{after_on}

-- the days of a flight, from day n on, with those of a set changed, each by itself
abbrev pub changed_by : (ℕ → Bool) → (ℕ → Legs → Legs) → ℕ → Days → Days
changed_by is_in after n [] = []
changed_by is_in after n (old ∷ days) =
    (if is_in n then after n old else old) ∷ changed_by is_in after (n + 1) days

-- the days of a flight after the action on the dates of a period
abbrev pub acted_on : List Row → Action → DayRange → Days → Days
acted_on rows action period days = changed_by (holds period) (after_on rows action) 0 days

-- the days of each flight after a sub-message, which changes the flight that it names
abbrev pub after_sub : List Row → Action → FlightNumber → DayRange → (FlightNumber → Days)
    → FlightNumber → Days
after_sub rows action flight period days g =
    if nat_eq (place_of flight) (place_of g) then acted_on rows action period (days g) else days g

-- the leg lines of an action that makes new legs; none for the others
abbrev pub lines_of : Action → List LegLine
lines_of (New new) = new.legs
lines_of Cnl = []
lines_of (Rpl new) = new.legs
lines_of (Eqt equipment) = []
lines_of (Tim lines) = []

-- whether a leg line departs from the station or arrives at it
abbrev pub is_at : List ℕ → LegLine → Bool
is_at station line =
    bytes_eq line.departure.station station || bytes_eq line.arrival.station station

-- whether a leg line of the action names the station
abbrev pub is_named : Action → List ℕ → Bool
is_named action station = list_any (is_at station) (lines_of action)

-- the row is of a station that the action names, and begins on this day or ended on the day before
abbrev pub divides : Action → ℕ → Row → Bool
divides action cut row =
    is_named action row.station && (nat_eq cut row.first || nat_eq cut (row.last + 1))

-- whether the day is a division point of an action: the period, or a row of a station that the
-- action names, begins on this day or ended on the day before
abbrev pub is_point_of : List Row → Action → DayRange → ℕ → Bool
is_point_of rows action period cut =
    (nat_eq cut period.first || nat_eq cut (period.last + 1)) || list_any (divides action cut) rows

-- new cuts of a flight are old ones or division points of the action, and the latter only for the
-- flight that is named
abbrev pub AddsPointsOf : FlightNumber → List Row → Action → DayRange → FlightNumber → List ℕ
    → List ℕ → Type 0
AddsPointsOf flight rows action period g old new =
    (cut : ℕ) → Contains new cut → Contains old cut
    ⊎ ((place_of flight ≡ place_of g) × IsTrue (is_point_of rows action period cut))
