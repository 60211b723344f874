-- The legs of changes, checked by computation.
use Rattle.std.specs.Prelude.{◌≡◌, ℕ, false, true, List, [], ◌∷◌, codes, refl}
use Rattle.ssim_values.specs.Flight.{FlightNumber}
use Rattle.ssim_values.specs.Period.{DayRange}
use Rattle.ssim_base.specs.Timetable.{LegValue}
use Rattle.ssim_difference.specs.Differences.{Compared, pair}
use Rattle.ssim_sql.specs.ChangeRows.{SideLeg, change_legs}

-- a leg with a byte that tells it from others
abbrev leg : ℕ → ℕ → LegValue
leg sequence byte = record { sequence = sequence; columns = byte ∷ []; tails = [] }

abbrev flight : FlightNumber
flight = record { number = 101; suffix = 32 }

-- the first day of the calendar, a Saturday
abbrev saturday : DayRange
saturday = record {
  first = 0;
  last = 0;
  days = false ∷ false ∷ false ∷ false ∷ false ∷ true ∷ false ∷ [];
}

-- a row of that day
abbrev side : List ℕ → LegValue → SideLeg
side name l = record { side = name; leg = record { flight = flight; period = saturday; leg = l } }

-- the second of two legs has other equipment: both legs are on both sides, the old side first
abbrev equipment_changed : Compared
equipment_changed = (
  flight,
  (saturday, pair (leg 1 7 ∷ leg 2 7 ∷ []) (leg 1 7 ∷ leg 2 8 ∷ [])) ∷ [],
)

both_sides : change_legs (equipment_changed ∷ [])
    ≡ side (codes "old") (leg 1 7) ∷ side (codes "old") (leg 2 7)
    ∷ side (codes "new") (leg 1 7) ∷ side (codes "new") (leg 2 8) ∷ []
both_sides = refl

-- a flight that is cancelled has rows of the old side alone, and one that is new those of the new
abbrev cancelled : Compared
cancelled = (flight, (saturday, pair (leg 1 7 ∷ []) []) ∷ [])

old_side : change_legs (cancelled ∷ []) ≡ side (codes "old") (leg 1 7) ∷ []
old_side = refl

abbrev added : Compared
added = (flight, (saturday, pair [] (leg 1 7 ∷ [])) ∷ [])

new_side : change_legs (added ∷ []) ≡ side (codes "new") (leg 1 7) ∷ []
new_side = refl

none : change_legs [] ≡ []
none = refl
