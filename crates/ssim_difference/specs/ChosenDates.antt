-- Which flight dates of two timetables a choice chooses: those of which the old or the new itinerary is
-- chosen. Both itineraries of such a date stay whole.
use Rattle.std.specs.Prelude.{ℕ, Bool, ◌||◌, if◌then◌else◌, []}
use Rattle.ssim_values.specs.Flight.{FlightNumber}
use Rattle.ssim_periods.specs.Days.{each_day}
use Rattle.ssim_base.specs.Timetable.{Days, Legs, on_day}
use Rattle.ssim_parts.specs.Chosen.{Choosing, is_chosen}

-- whether the old or the new itinerary of a flight on a date is chosen
abbrev pub is_either_chosen : Choosing → FlightNumber → ℕ → Legs → Legs → Bool
is_either_chosen choice flight n old new =
    is_chosen choice flight n old || is_chosen choice flight n new

-- of one of two timetables, the old one or the new one, the dates that are chosen
abbrev pub chosen_side : Choosing → (old new side : FlightNumber → Days) → FlightNumber → Days
chosen_side choice old new side flight =
    each_day (λ n. if is_either_chosen choice flight n (on_day (old flight) n) (on_day (new flight) n)
    then on_day (side flight) n else [])
