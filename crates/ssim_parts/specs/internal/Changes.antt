-- Changes of one flight on each date.
use Rattle.std.specs.Prelude.{◌≡◌, ℕ, ◌&&◌, nat_eq, nat_le, nat_lt, if◌then◌else◌, []}
use Rattle.ssim_values.specs.Flight.{FlightNumber}
use Rattle.ssim_periods.specs.Days.{each_day}
use Rattle.ssim_base.specs.ReadBack.{place_of}
use Rattle.ssim_base.specs.Timetable.{Legs}
use Rattle.ssim_schedule.specs.clauses.Schedule.{Flown, days_in}

-- a flight has these itineraries
abbrev pub Has : Flown → FlightNumber → (ℕ → Legs) → Type 0
Has flown flight legs = days_in flown flight ≡ each_day legs

-- what a flight has on a date after a change of one flight
abbrev pub after_change : FlightNumber → (ℕ → Legs → Legs) → FlightNumber → (ℕ → Legs) → ℕ → Legs
after_change flight change g legs n =
    if nat_eq (place_of flight) (place_of g) then change n (legs n) else legs n

-- a flight is changed on each date, and no other is
abbrev pub ChangesFlight : FlightNumber → (ℕ → Legs → Legs) → Flown → Flown → Type 0
ChangesFlight flight change old new =
    (g : FlightNumber) (legs : ℕ → Legs) → Has old g legs
    → Has new g (after_change flight change g legs)

-- none on the dates from a first one to the one before an end
abbrev pub cancelled : ℕ → ℕ → ℕ → Legs → Legs
cancelled first end n legs = if nat_le first n && nat_lt n end then [] else legs
