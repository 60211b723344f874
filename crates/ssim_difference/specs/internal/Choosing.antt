-- The differences of a flight that a choice chooses, if there is a choice.
use Rattle.std.specs.Prelude.{◌≡◌, ℕ, Bool, ◌&&◌, nat_le, nat_lt, if◌then◌else◌, List}
use Rattle.std.specs.Prelude.{◌||◌, Option, Some, None}
use Rattle.ssim_values.specs.Flight.{FlightNumber}
use Rattle.ssim_periods.specs.Days.{each_day}
use Rattle.ssim_base.specs.Timetable.{Days}
use Rattle.ssim_parts.specs.Chosen.{Choosing, chooses_legs}
use Rattle.ssim_difference.specs.ChosenDates.{chosen_side, is_either_chosen}
use Rattle.ssim_difference.specs.Differences.{no_difference}
use Rattle.ssim_difference.specs.declared.difference.Difference.{Difference}

-- one of two timetables, or the dates of it that are chosen
abbrev pub part : Option Choosing → (old new side : FlightNumber → Days) → FlightNumber → Days
part None old new side = side
part (Some choice) old new side = chosen_side choice old new side

-- a difference on a date if it is chosen, and else none
abbrev pub chosen_difference : Choosing → FlightNumber → ℕ → Difference → Difference
chosen_difference choice flight n d =
    if is_either_chosen choice flight n d.old d.new then d else no_difference

-- whether one of the itineraries of a difference is chosen, on whatever date
abbrev pub chooses_one : Choosing → Difference → Bool
chooses_one choice d = chooses_legs choice d.old || chooses_legs choice d.new

-- a difference of which one itinerary is chosen, on whatever date, and else none
abbrev pub with_chosen_legs : Choosing → ℕ → Difference → Difference
with_chosen_legs choice n d = if chooses_one choice d then d else no_difference

-- none on the dates from a first one to the one before an end
abbrev pub without : ℕ → ℕ → ℕ → Difference → Difference
without first end n d = if nat_le first n && nat_lt n end then no_difference else d

-- the differences of a flight are changed so on each date
abbrev pub Changes : (ℕ → Difference → Difference) → List Difference → List Difference → Type 0
Changes change old new =
    (was : ℕ → Difference) → old ≡ each_day was → new ≡ each_day (λ n. change n (was n))
