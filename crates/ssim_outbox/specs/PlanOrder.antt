-- The order in which the sub-messages of a plan come, and that they do not overlap.
use Rattle.std.specs.Prelude.{◌≡◌, ◌⊎◌, ℕ, ◌<◌, ◌≤◌, Bool, ◌&&◌, true, List, [], ◌∷◌}
use Rattle.std.specs.List.{AllByRecursion}
use Rattle.ssim_values.specs.Flight.{FlightNumber, IsFlight}
use Rattle.ssim_values.specs.Period.{DayRange}
use Rattle.ssim_periods.specs.Calendar.{day_count, holds}
use Rattle.ssim_base.specs.Timetable.{same_flight}
use Rattle.ssim_outbox.specs.declared.planned_sub.PlannedSub.{PlannedSub}

-- A sub-message is not after another. Its flight comes first: it has a lower number, or the same
-- number and a lower suffix, the blank first. Or both are of one flight, and the first day of its
-- period is not later.
abbrev pub IsNotAfter : PlannedSub → PlannedSub → Type 0
IsNotAfter one other =
    (one.flight.number < other.flight.number)
    ⊎ ((one.flight.number ≡ other.flight.number) × (one.flight.suffix < other.flight.suffix))
    ⊎ ((one.flight ≡ other.flight) × (one.period.first ≤ other.period.first))

-- The sub-messages come by flight, and those of one flight by first day: none is after the next.
abbrev pub ComeInOrder : List PlannedSub → Type 0
ComeInOrder [] = Unit {0}
ComeInOrder (sub ∷ []) = Unit {0}
ComeInOrder (sub ∷ next ∷ later) = IsNotAfter sub next × ComeInOrder (next ∷ later)

-- whether a sub-message names a date of a flight
abbrev pub names_date : FlightNumber → ℕ → PlannedSub → Bool
names_date flight day sub = same_flight sub.flight flight && holds sub.period day

-- all sub-messages that name a date of a flight have one period
abbrev pub HaveOnePeriod : FlightNumber → ℕ → List PlannedSub → Type 0
HaveOnePeriod flight day subs = (period : DayRange)
    × AllByRecursion (λ sub. names_date flight day sub ≡ true → sub.period ≡ period) subs

-- two sub-messages of one flight have the same period, or no date of both
abbrev pub DoNotOverlap : List PlannedSub → Type 0
DoNotOverlap subs = (flight : FlightNumber) (day : ℕ) → IsFlight flight → day < day_count
    → HaveOnePeriod flight day subs
