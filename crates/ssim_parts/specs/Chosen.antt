-- Which flight dates a choice chooses, and what is left of a timetable.
use Rattle.std.specs.Prelude.{ℕ, ◌==◌, Bool, true, ◌&&◌, ◌||◌, nat_le, if◌then◌else◌, List, [], ◌∷◌}
use Rattle.std.specs.List.{list_any}
use Rattle.std.specs.Str.{bytes_eq}
use Rattle.ssim_values.specs.Flight.{FlightNumber}
use Rattle.ssim_records.specs.Leg.{leg_columns}
use Rattle.ssim_periods.specs.Days.{each_day}
use Rattle.ssim_base.specs.Timetable.{Days, LegValue, Legs, on_day, same_flight}

-- A choice: some flights, the first and the last date of origin, some stations, and some aircraft
-- types in three columns, with blanks after them. Where none is named, all are chosen.
pub record Choosing : Type 0 where
  pub flights : List FlightNumber
  pub first : ℕ
  pub last : ℕ
  pub stations : List (List ℕ)
  pub aircraft : List (List ℕ)

-- whether none is named, or one that is named passes a test
abbrev pub none_or : {A : Type 0} → (A → Bool) → List A → Bool
none_or test [] = true
none_or test (a ∷ named) = list_any test (a ∷ named)

-- whether a leg departs from a station or arrives at it
abbrev pub touches : List ℕ → LegValue → Bool
touches station leg =
    bytes_eq (leg_columns 37 39 leg.columns) station
    || bytes_eq (leg_columns 55 57 leg.columns) station

-- three columns with their text moved before the blanks
abbrev pub left_aligned : List ℕ → List ℕ
left_aligned (a ∷ b ∷ d ∷ []) =
    if a == 32 then (if b == 32 then d ∷ 32 ∷ 32 ∷ [] else b ∷ d ∷ 32 ∷ []) else a ∷ b ∷ d ∷ []
left_aligned columns = columns

-- whether a leg has an aircraft type in columns 73 to 75
abbrev pub has_aircraft : List ℕ → LegValue → Bool
has_aircraft aircraft leg = bytes_eq (left_aligned (leg_columns 73 75 leg.columns)) aircraft

-- whether a flight is chosen
abbrev pub chooses_flight : Choosing → FlightNumber → Bool
chooses_flight choice flight = none_or (same_flight flight) choice.flights

-- whether a date of origin is chosen
abbrev pub chooses_date : Choosing → ℕ → Bool
chooses_date choice n = nat_le choice.first n && nat_le n choice.last

-- whether an itinerary is chosen: a leg of it departs from one of the stations or arrives at it, and
-- a leg of it has one of the aircraft types
abbrev pub chooses_legs : Choosing → Legs → Bool
chooses_legs choice legs =
    none_or (λ station. list_any (touches station) legs) choice.stations
    && none_or (λ aircraft. list_any (has_aircraft aircraft) legs) choice.aircraft

-- whether the itinerary of a flight on a date is chosen
abbrev pub is_chosen : Choosing → FlightNumber → ℕ → Legs → Bool
is_chosen choice flight n legs =
    (chooses_flight choice flight && chooses_date choice n) && chooses_legs choice legs

-- what a flight has on a date: its itinerary if that is chosen, whole, and else none
abbrev pub chosen_legs : Choosing → FlightNumber → ℕ → Legs → Legs
chosen_legs choice flight n legs = if is_chosen choice flight n legs then legs else []

-- the chosen part of a timetable
abbrev pub chosen_days : Choosing → (FlightNumber → Days) → FlightNumber → Days
chosen_days choice days flight =
    each_day (λ n. chosen_legs choice flight n (on_day (days flight) n))
