-- The flights of a timetable as CSV, in the words of the crate `csv`.
use Rattle.std.specs.Prelude.{ℕ, ◌+◌, ◌-◌, List, [], ◌∷◌, ◌++◌, map, take, drop, codes}
use Rattle.std.specs.Prelude.{if◌then◌else◌, replicate}
use Rattle.std.specs.List.{flat_map}
use Rattle.std.specs.Str.{bytes_eq}
use Rattle.csv.specs.Records.{trimmed}
use Rattle.csv.specs.Writing.{default_writer, row_text}
use Rattle.ssim_values.specs.Calendar.{day_of_month, month_of, weekday, year_of}
use Rattle.ssim_values.specs.Characters.{two_digits}
use Rattle.ssim_values.specs.DayMask.{digits_of}
use Rattle.ssim_values.specs.Period.{DayRange}
use Rattle.ssim_records.specs.Leg.{leg_columns}
use Rattle.ssim_base.specs.Export.{Piece}
use Rattle.ssim_base.specs.Timetable.{LegValue}
use Rattle.ssim_schedule.specs.FlightPieces.{Divided}
use Rattle.ssim_listing.specs.Dates.{FlightDate, dates_of}
use Rattle.ssim_listing.specs.Lines.{flight_name}

-- a row of these fields, without white space at both ends of each
abbrev pub row : List (List ℕ) → List ℕ
row fields = row_text default_writer (map trimmed fields)

-- the names of the fields of a leg
abbrev pub leg_names : List (List ℕ)
leg_names =
    codes "leg" ∷ codes "from" ∷ codes "passenger_departure" ∷ codes "departure"
    ∷ codes "departure_utc_variation"
    ∷ codes "to" ∷ codes "arrival" ∷ codes "passenger_arrival" ∷ codes "arrival_utc_variation"
    ∷ codes "departure_date_variation" ∷ codes "arrival_date_variation"
    ∷ codes "service" ∷ codes "aircraft" ∷ codes "bookings" ∷ codes "configuration"
    ∷ codes "departure_terminal" ∷ codes "arrival_terminal" ∷ []

-- the names of the columns
abbrev pub header : List (List ℕ)
header = codes "flight" ∷ codes "first" ∷ codes "last" ∷ codes "days" ∷ leg_names

-- a date from 2000 to 2099 as in 2027-03-28
abbrev pub iso_date : ℕ → List ℕ
iso_date n =
    codes "20" ++ two_digits (year_of n - 2000) ++ 45 ∷ two_digits (month_of n)
    ++ 45 ∷ two_digits (day_of_month n)

-- what is between the hours and the minutes of a time: a colon, or a blank if all is blank
abbrev pub colon : List ℕ → ℕ
colon text = if bytes_eq text (codes "    ") then 32 else 58

-- a time as in 17:30; a blank time stays blank
abbrev pub iso_time : List ℕ → List ℕ
iso_time text = take 2 text ++ colon text ∷ drop 2 text

-- columns first to last of a leg that are a time
abbrev pub time_field : ℕ → ℕ → List ℕ → List ℕ
time_field first last columns = iso_time (leg_columns first last columns)

-- the fields of a leg after those of its flight and its dates
abbrev pub leg_fields : LegValue → List (List ℕ)
leg_fields leg =
    let d = leg.columns in
    two_digits leg.sequence
    ∷ leg_columns 37 39 d ∷ time_field 40 43 d ∷ time_field 44 47 d ∷ leg_columns 48 52 d
    ∷ leg_columns 55 57 d ∷ time_field 58 61 d ∷ time_field 62 65 d ∷ leg_columns 66 70 d
    ∷ take 1 (leg_columns 193 194 d) ∷ drop 1 (leg_columns 193 194 d)
    ∷ leg_columns 14 14 d ∷ leg_columns 73 75 d ∷ leg_columns 76 95 d ∷ leg_columns 173 192 d
    ∷ leg_columns 53 54 d ∷ leg_columns 71 72 d ∷ []

-- the row of a leg, after the fields of its flight and its dates
abbrev pub leg_row : List (List ℕ) → LegValue → List ℕ
leg_row head leg = row (head ++ leg_fields leg)

-- the row without a leg: as many empty fields as a leg has
abbrev pub no_leg_row : List (List ℕ) → List ℕ
no_leg_row head = row (head ++ replicate 17 [])

-- the fields of a flight with this name and a period
abbrev pub period_head : List ℕ → DayRange → List (List ℕ)
period_head name period =
    name ∷ iso_date period.first ∷ iso_date period.last ∷ digits_of period.days ∷ []

-- the rows of a piece of a flight with this name
abbrev pub piece_rows : List ℕ → Piece → List ℕ
piece_rows name piece = flat_map (leg_row (period_head name piece.0)) piece.1

-- the fields of a flight with this name and a date: the digit of its weekday is the days
abbrev pub date_head : List ℕ → ℕ → List (List ℕ)
date_head name day = name ∷ iso_date day ∷ iso_date day ∷ ((48 + weekday day) ∷ []) ∷ []

-- the rows of a flight with this name on a date
abbrev pub date_rows : List ℕ → FlightDate → List ℕ
date_rows name date = flat_map (leg_row (date_head name date.0)) date.1

-- the flights of an airline with their pieces, after the names of the columns
abbrev pub csv_listing : List ℕ → List Divided → List ℕ
csv_listing airline flights =
    row header
    ++ flat_map (λ flight. flat_map (piece_rows (flight_name airline flight.0)) flight.1) flights

-- the same, date by date
abbrev pub dated_csv_listing : List ℕ → List Divided → List ℕ
dated_csv_listing airline flights =
    row header
    ++ flat_map (λ flight. flat_map (date_rows (flight_name airline flight.0)) (dates_of flight.1))
    flights
