-- The dates of which a builder makes the timetable.
use Rattle.std.specs.Prelude.{◌≡◌, ℕ, Bool, true, false, ◌&&◌, nat_le, if◌then◌else◌, List, [], Option, Some, None}
use Rattle.ssim_values.specs.Flight.{FlightNumber}
use Rattle.ssim_values.specs.Period.{DayRange}
use Rattle.ssim_periods.specs.Calendar.{holds}
use Rattle.ssim_records.specs.declared.record.Record.{Record}
use Rattle.ssim_base.specs.Timetable.{Legs, itinerary}

-- whether a day is wanted: each day is, or those from a first date to a last
abbrev pub is_wanted : Option (ℕ × ℕ) → ℕ → Bool
is_wanted None day = true
is_wanted (Some dates) day = nat_le dates.0 day && nat_le day dates.1

-- the itinerary of a flight on a wanted day; no legs on any other day
abbrev pub itinerary_wanted : Option (ℕ × ℕ) → List Record → FlightNumber → ℕ → Legs
itinerary_wanted wanted records flight day =
    if is_wanted wanted day then itinerary records flight day else []

-- the part of a period with its wanted days, if it has any; the whole period if each day is wanted
abbrev pub IsPart : Option (ℕ × ℕ) → DayRange → Option DayRange → Type 0
IsPart wanted period None = (n : ℕ) → (holds period n && is_wanted wanted n) ≡ false
IsPart wanted period (Some part) =
    ((n : ℕ) → holds part n ≡ (holds period n && is_wanted wanted n))
    × (wanted ≡ None → part ≡ period)
