-- On which dates two timetables differ: for each flight the periods of the dates that differ, each
-- with the old and the new itinerary.
use Rattle.std.specs.Prelude.{◌≡◌, ◌↔◌, ℕ, ◌<◌, Bool, not, ◌&&◌, nat_lt, if◌then◌else◌}
use Rattle.std.specs.Prelude.{List, [], ◌∷◌, filter, length, map}
use Rattle.std.specs.List.{count_by, range_with_len, sum_by}
use Rattle.ssim_values.specs.Flight.{FlightNumber}
use Rattle.ssim_values.specs.Period.{DayRange}
use Rattle.ssim_periods.specs.Calendar.{day_count}
use Rattle.ssim_periods.specs.Days.{each_day}
use Rattle.ssim_periods.specs.Pieces.{held_on, pieces_of}
use Rattle.ssim_base.specs.Export.{all_flights, same_itinerary}
use Rattle.ssim_base.specs.ReadBack.{HaveSameItineraries}
use Rattle.ssim_base.specs.Timetable.{Days, Legs, on_day}
use Rattle.ssim_difference.specs.declared.difference.Difference.{Difference}

-- ---- a date

-- an old and a new itinerary
abbrev pub pair : Legs → Legs → Difference
pair old new = record { old = old; new = new }

-- no difference: neither an old nor a new itinerary
abbrev pub no_difference : Difference
no_difference = pair [] []

-- the difference of two itineraries: both of them, or none if they are equal
abbrev pub difference : Legs → Legs → Difference
difference old new = if same_itinerary old new then no_difference else pair old new

-- whether two differences are equal: the old itineraries are, and the new ones
abbrev pub same_difference : Difference → Difference → Bool
same_difference d e = same_itinerary d.old e.old && same_itinerary d.new e.new

-- ---- a flight

-- the difference of a flight on each day
abbrev pub differing_days : Days → Days → List Difference
differing_days old new = each_day (λ n. difference (on_day old n) (on_day new n))

-- a period with the old and the new itinerary on its dates
abbrev pub DifferencePiece : Type 0
DifferencePiece = DayRange × Difference

-- the canonical division of the dates on which a flight differs
abbrev pub difference_pieces : Days → Days → List DifferencePiece
difference_pieces old new = pieces_of same_difference no_difference (differing_days old new)

-- whether a flight differs on a day
abbrev pub differs_on : Days → Days → ℕ → Bool
differs_on old new n = not (same_itinerary (on_day old n) (on_day new n))

-- on how many dates a flight differs
abbrev pub differing_dates : Days → Days → ℕ
differing_dates old new = count_by (differs_on old new) (range_with_len 0 day_count)

-- ---- all flights

-- a flight and its pieces
abbrev pub Compared : Type 0
Compared = FlightNumber × List DifferencePiece

-- a flight with the pieces of its differences
abbrev pub compared : (FlightNumber → Days) → (FlightNumber → Days) → FlightNumber → Compared
compared old new flight = (flight, difference_pieces (old flight) (new flight))

-- whether a flight differs on some date
abbrev pub differs : Compared → Bool
differs flight = nat_lt 0 (length flight.1)

-- the flights that differ on some date, by number and then by suffix, each with its pieces
abbrev pub differences : (FlightNumber → Days) → (FlightNumber → Days) → List Compared
differences old new = filter differs (map (compared old new) all_flights)

-- on how many dates the flights differ, all together
abbrev pub date_count : (FlightNumber → Days) → (FlightNumber → Days) → ℕ
date_count old new = sum_by (λ flight. differing_dates (old flight) (new flight)) all_flights

-- ---- laws

-- The law of differences. On each date of the calendar on which a flight differs, exactly one of
-- its pieces holds the date, with the two itineraries of the date. No piece holds another date.
abbrev pub PiecesHoldDifferences : Type 0
PiecesHoldDifferences = (old new : Days) (n : ℕ) → n < day_count
    → held_on (difference_pieces old new) n
    ≡ (if differs_on old new n then pair (on_day old n) (on_day new n) ∷ [] else [])

-- The law of equal timetables. No flight differs if and only if each flight has the same itinerary
-- on each date.
abbrev pub NoneDiffer : Type 0
NoneDiffer = (old new : FlightNumber → Days)
    → (differences old new ≡ []) ↔ HaveSameItineraries old new
