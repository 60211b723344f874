-- How much a timetable has: its flights, stations and flight dates, and its first and last date.
use Rattle.std.specs.Prelude.{ℕ, ◌+◌, ◌/◌, ◌%◌, Bool, true, false, ◌||◌}
use Rattle.std.specs.Prelude.{List, [], ◌∷◌, map, Option, Some, None}
use Rattle.std.specs.List.{count_by, list_any, range_with_len, sum_by}
use Rattle.std.specs.Str.{bytes_eq}
use Rattle.ssim_values.specs.Flight.{FlightNumber}
use Rattle.ssim_records.specs.Leg.{leg_columns}
use Rattle.ssim_periods.specs.Calendar.{day_count}
use Rattle.ssim_periods.specs.Cover.{first_where, last_where}
use Rattle.ssim_base.specs.Export.{all_flights}
use Rattle.ssim_base.specs.Timetable.{LegValue, Legs}
use Rattle.ssim_overview.specs.declared.totals.Totals.{Totals}

-- the legs of each flight on each date of origin
abbrev pub LegsOn : Type 0
LegsOn = FlightNumber → ℕ → Legs

-- the dates of the calendar
abbrev pub calendar : List ℕ
calendar = range_with_len 0 day_count

-- ---- flights and dates

-- whether a flight flies: it has a leg
abbrev pub has_legs : Legs → Bool
has_legs [] = false
has_legs (leg ∷ legs) = true

-- on how many dates a flight flies
abbrev pub date_count : (ℕ → Legs) → ℕ
date_count legs_on = count_by (λ n. has_legs (legs_on n)) calendar

-- whether a flight flies on some date
abbrev pub flies : (ℕ → Legs) → Bool
flies legs_on = list_any (λ n. has_legs (legs_on n)) calendar

-- how many flights fly on some date
abbrev pub flight_total : LegsOn → ℕ
flight_total legs_on = count_by (λ flight. flies (legs_on flight)) all_flights

-- on how many dates the flights fly, all together
abbrev pub date_total : LegsOn → ℕ
date_total legs_on = sum_by (λ flight. date_count (legs_on flight)) all_flights

-- whether some flight flies on a date
abbrev pub is_flown : LegsOn → ℕ → Bool
is_flown legs_on n = list_any (λ flight. has_legs (legs_on flight n)) all_flights

-- the first and the last date that pass a test, if some date does
abbrev pub ends_of : (ℕ → Bool) → Bool → Option (ℕ × ℕ)
ends_of test true = Some (first_where test 0 day_count, last_where test 0 day_count)
ends_of test false = None

-- the first and the last date on which some flight flies
abbrev pub first_and_last : LegsOn → Option (ℕ × ℕ)
first_and_last legs_on = ends_of (is_flown legs_on) (list_any (is_flown legs_on) calendar)

-- ---- stations

-- whether a leg departs from a station or arrives at it
abbrev pub calls_at : List ℕ → LegValue → Bool
calls_at station leg =
    bytes_eq (leg_columns 37 39 leg.columns) station
    || bytes_eq (leg_columns 55 57 leg.columns) station

-- whether a leg of an itinerary does
abbrev pub serves : List ℕ → Legs → Bool
serves station legs = list_any (calls_at station) legs

-- whether a leg of some flight does on some date
abbrev pub is_served : LegsOn → List ℕ → Bool
is_served legs_on station =
    list_any (λ flight. list_any (λ n. serves station (legs_on flight n)) calendar) all_flights

-- the number of stations; opaque, so that the list of all stations is never written out
unfoldable pub station_limit : ℕ
station_limit = 17576

-- the station with this rank among all, in order of letters
abbrev pub station_at : ℕ → List ℕ
station_at n = (65 + n / 676) ∷ (65 + n / 26 % 26) ∷ (65 + n % 26) ∷ []

-- all stations
abbrev pub all_stations : List (List ℕ)
all_stations = map station_at (range_with_len 0 station_limit)

-- how many stations a leg departs from or arrives at on some date
abbrev pub station_total : LegsOn → ℕ
station_total legs_on = count_by (is_served legs_on) all_stations

-- ---- all together

-- the totals of a timetable
abbrev pub totals : LegsOn → Totals
totals legs_on = record {
  flights = flight_total legs_on;
  stations = station_total legs_on;
  dates = date_total legs_on;
  first_and_last = first_and_last legs_on;
}
