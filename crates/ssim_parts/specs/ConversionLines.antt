-- The lines that say what the other time mode leaves, and how many flight dates it keeps.
use Rattle.std.specs.Prelude.{ℕ, ◌%◌, Bool, true, false, not, nat_eq, List, [], ◌∷◌, ◌++◌, codes}
use Rattle.std.specs.Fmt.{decimal}
use Rattle.std.specs.List.{count_by, flat_map, range_with_len, sum_by}
use Rattle.ssim_values.specs.Characters.{two_digits}
use Rattle.ssim_values.specs.Flight.{FlightNumber}
use Rattle.ssim_values.specs.declared.time_mode.TimeMode.{TimeMode}
use Rattle.ssim_periods.specs.Calendar.{day_count}
use Rattle.ssim_base.specs.Export.{all_flights, line}
use Rattle.ssim_base.specs.Stations.{Row}
use Rattle.ssim_base.specs.Timetable.{Days, Legs, on_day}
use Rattle.ssim_listing.specs.Lines.{flight_name, period_text}
use Rattle.ssim_parts.specs.Converted.{fate_on}
use Rattle.ssim_parts.specs.FlightFates.{FatePiece, FlightFate, fates_of}
use Rattle.ssim_parts.specs.declared.fate.Fate.{Fate}
use Rattle.ssim_parts.specs.declared.fate.Fate.TheVariants.{Absent, Kept, Left}
use Rattle.ssim_parts.specs.declared.fate.LeftReason.{LeftReason}
use Rattle.ssim_parts.specs.declared.fate.LeftReason.TheVariants as why

-- the words of a reason, with the leg sequence, 1 to 99, in two digits
abbrev pub reason_text : LeftReason → List ℕ
reason_text (why.Station sequence) = codes "station " ++ two_digits (sequence % 100)
reason_text (why.Letter sequence) = codes "letter " ++ two_digits (sequence % 100)
reason_text why.Calendar = codes "calendar"
reason_text (why.Days sequence) = codes "days " ++ two_digits (sequence % 100)
reason_text why.Date = codes "date"

-- the line of a flight with this name, with a period and the reason, if its dates are left
abbrev pub line_if_left : List ℕ → List ℕ → Fate → List ℕ
line_if_left name period Absent = []
line_if_left name period (Kept shift) = []
line_if_left name period (Left reason) =
    line (codes "left " ++ name ++ 32 ∷ period ++ 32 ∷ reason_text reason)

-- the line of a piece of a flight with this name: its period and the reason, if its dates are left
abbrev pub left_line : List ℕ → FatePiece → List ℕ
left_line name piece = line_if_left name (period_text piece.0) piece.1

-- the lines of a flight of an airline
abbrev pub left_lines : List ℕ → FlightFate → List ℕ
left_lines airline flight = flat_map (left_line (flight_name airline flight.0)) flight.1

-- whether a flight date is in the new timetable
abbrev pub is_kept : Fate → Bool
is_kept Absent = false
is_kept (Kept shift) = true
is_kept (Left reason) = false

-- whether it is there on another date than before
abbrev pub is_moved : Fate → Bool
is_moved Absent = false
is_moved (Kept shift) = not (nat_eq shift 1)
is_moved (Left reason) = false

-- whether it is left
abbrev pub is_left : Fate → Bool
is_left Absent = false
is_left (Kept shift) = false
is_left (Left reason) = true

-- how many dates of a flight have a fate that passes a test
abbrev pub dates_with : (Fate → Bool) → List Row → TimeMode → Days → ℕ
dates_with test rows wanted days =
    count_by (λ n. test (fate_on rows wanted days n)) (range_with_len 0 day_count)

-- how many flight dates have such a fate
abbrev pub flight_dates_with : (Fate → Bool) → List Row → TimeMode → (FlightNumber → Days) → ℕ
flight_dates_with test rows wanted days =
    sum_by (λ flight. dates_with test rows wanted (days flight)) all_flights

-- the last line: how many flight dates the new timetable has, how many of these have another date
-- than before, and how many flight dates are left
abbrev pub last_line : ℕ → ℕ → ℕ → List ℕ
last_line dates moved left =
    line (codes "dates " ++ decimal dates ++ codes " moved " ++ decimal moved
    ++ codes " left " ++ decimal left)

-- the lines of a timetable of an airline: for each flight the periods that are left, and the last
-- line
abbrev pub conversion_lines : List ℕ → List Row → TimeMode → (FlightNumber → Days) → List ℕ
conversion_lines airline rows wanted days =
    flat_map (left_lines airline) (fates_of rows wanted days)
    ++ last_line (flight_dates_with is_kept rows wanted days)
    (flight_dates_with is_moved rows wanted days) (flight_dates_with is_left rows wanted days)

-- ---- to the time mode that a timetable has

-- whether there are legs
abbrev pub flies_with : Legs → Bool
flies_with [] = false
flies_with (leg ∷ legs) = true

-- how many flight dates a timetable has
abbrev pub flight_dates : (FlightNumber → Days) → ℕ
flight_dates days =
    sum_by
    (λ flight. count_by (λ n. flies_with (on_day (days flight) n)) (range_with_len 0 day_count))
    all_flights

-- the line of a timetable that stays as it is
abbrev pub unconverted_lines : (FlightNumber → Days) → List ℕ
unconverted_lines days = last_line (flight_dates days) 0 0
