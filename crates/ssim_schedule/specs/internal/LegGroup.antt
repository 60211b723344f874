-- The pending legs of one flight and one period, which are put into its itineraries together.
use Rattle.std.specs.Prelude.{◌≡◌, ◌⊎◌, ℕ, ◌+◌, ◌≤◌, nat_eq, if◌then◌else◌, [], ◌∷◌, Option, Some}
use Rattle.std.specs.Prelude.{None}
use Rattle.ssim_values.specs.Flight.{FlightNumber}
use Rattle.ssim_periods.specs.Calendar.{holds}
use Rattle.ssim_periods.specs.Days.{changed_on}
use Rattle.ssim_schedule.specs.clauses.PlacedLegs.{placed_each}
use Rattle.ssim_base.specs.ReadBack.{place_of}
use Rattle.ssim_base.specs.Timetable.{Days, Legs}
use Rattle.ssim_schedule.specs.declared.builder.leg_group.Heading.{Heading}

-- the flight and the period, if there is a group, and its legs in the order of their records
pub record Group : Type 0 where
  pub heading : Option Heading
  pub legs : Legs

-- no legs are pending
abbrev pub no_group : Group
no_group = record { heading = None; legs = [] }

-- the leg sequence of the first leg is n or higher
abbrev pub StartsFrom : ℕ → Legs → Type 0
StartsFrom n [] = Unit {0}
StartsFrom n (l ∷ legs) = n ≤ l.sequence

-- a flight's itineraries once these legs are put into those of the heading's flight on the dates of
-- its period
abbrev pub with_legs : Option Heading → Legs → FlightNumber → Days → Days
with_legs None legs g days = days
with_legs (Some h) legs g days =
    if nat_eq (place_of h.flight) (place_of g)
    then changed_on (holds h.period) (placed_each legs) 0 days
    else days

-- the day is the first of the period, or the day after its last, and the flight is the heading's
abbrev pub IsBound : Option Heading → FlightNumber → ℕ → Type 0
IsBound None g day = ⊥
IsBound (Some h) g day =
    (place_of h.flight ≡ place_of g) × ((day ≡ h.period.first) ⊎ (day ≡ h.period.last + 1))
