-- The rows of the table `leg`: a row for each period and leg of a flight.
use Rattle.std.specs.Prelude.{◌≡◌, ℕ, ◌-◌, ◌==◌, Bool, ◌&&◌, if◌then◌else◌, List, [], ◌∷◌, ◌++◌}
use Rattle.std.specs.Prelude.{Option, Some, None, codes, filter, map, unwrap_or}
use Rattle.std.specs.Fmt.{decimal}
use Rattle.std.specs.List.{flat_map}
use Rattle.ssim_values.specs.Clock.{clock_text}
use Rattle.ssim_values.specs.DayMask.{digits_of}
use Rattle.ssim_values.specs.Flight.{FlightNumber, IsFlight}
use Rattle.ssim_values.specs.Period.{DayRange}
use Rattle.ssim_values.specs.declared.time_mode.TimeMode.{TimeMode}
use Rattle.ssim_periods.specs.Calendar.{holds}
use Rattle.ssim_text.specs.Left.{without_end}
use Rattle.ssim_records.specs.Columns.{passenger_time_of}
use Rattle.ssim_records.specs.Leg.{leg_columns}
use Rattle.ssim_base.specs.Export.{Piece}
use Rattle.ssim_base.specs.Timetable.{Days, LegValue, on_day, same_flight}
use Rattle.ssim_schedule.specs.FlightPieces.{Divided, divided_flights}
use Rattle.ssim_listing.specs.Lines.{flight_name}
use Rattle.ssim_listing.specs.Rows.{iso_date, iso_time}
use Rattle.ssim_board.specs.LegTimes.{arrival_time, arrival_utc, departure_time, departure_utc}
use Rattle.ssim_board.specs.LegTimes.{is_uncertain}
use Rattle.ssim_sql.specs.Blanks.{trimmed}
use Rattle.ssim_sql.specs.Literal.{quote}
use Rattle.ssim_sql.specs.Statements.{row_of}

-- ---- values of a leg

-- columns first to last of a leg, without the blanks around them
abbrev pub text : ℕ → ℕ → List ℕ → List ℕ
text first last columns = quote (trimmed (leg_columns first last columns))

-- the same with the blanks at the beginning, so that each byte keeps its place
abbrev pub text_in_place : ℕ → ℕ → List ℕ → List ℕ
text_in_place first last columns = quote (without_end (leg_columns first last columns))

-- minutes from midnight, as in 17:30
abbrev pub clock : ℕ → List ℕ
clock minutes = quote (iso_time (clock_text minutes))

-- a time that may be blank
abbrev pub clock_or_null : Option ℕ → List ℕ
clock_or_null None = codes "NULL"
clock_or_null (Some minutes) = clock minutes

-- a passenger time of a leg, NULL if its columns are blank
abbrev pub passenger : ℕ → ℕ → List ℕ → List ℕ
passenger first last columns =
    clock_or_null (unwrap_or (passenger_time_of (leg_columns first last columns)) None)

-- how many days after the first a day is, if the one before the first has the number 0
abbrev pub days_after : ℕ → List ℕ
days_after n = if n == 0 then codes "-1" else decimal (n - 1)

-- 1 if it holds, or else 0
abbrev pub flag : Bool → List ℕ
flag test = decimal (if test then 1 else 0)

-- ---- the rows

-- the values of a flight on a period: its name, the first and the last date, and the weekdays
abbrev pub period_values : List ℕ → DayRange → List (List ℕ)
period_values flight period =
    quote flight ∷ quote (iso_date period.first) ∷ quote (iso_date period.last)
    ∷ quote (digits_of period.days) ∷ []

-- The values of a leg. Times are those of `board`; their days count from the date of origin, which
-- is day 0 of the calendar here: the day before it has the number 0.
abbrev pub leg_values : TimeMode → ℕ → List ℕ → List (List ℕ)
leg_values mode sequence d =
    let departs = departure_time mode 0 d in let departs_utc = departure_utc mode 0 d in
    let arrives = arrival_time mode 0 d in let arrives_utc = arrival_utc mode 0 d in
    decimal sequence
    ∷ text 37 39 d ∷ clock departs.minutes ∷ days_after departs.days
    ∷ clock departs_utc.minutes ∷ days_after departs_utc.days
    ∷ passenger 40 43 d ∷ text 53 54 d
    ∷ text 55 57 d ∷ clock arrives.minutes ∷ days_after arrives.days
    ∷ clock arrives_utc.minutes ∷ days_after arrives_utc.days
    ∷ passenger 62 65 d ∷ text 71 72 d
    ∷ text 14 14 d ∷ text 73 75 d ∷ text 76 95 d ∷ text 173 192 d
    ∷ text_in_place 96 127 d ∷ text_in_place 129 172 d ∷ flag (is_uncertain mode d) ∷ []

-- the row of a leg on a period of a flight, of the timetable with this name
unfoldable pub leg_row : List ℕ → TimeMode → List ℕ → DayRange → LegValue → List ℕ
leg_row name mode flight period leg = row_of name
    (period_values flight period ++ leg_values mode leg.sequence leg.columns)

-- ---- of all flights

-- a leg of a flight on a period: a row of `leg`, before it is text
pub record FlightLeg : Type 0 where
  pub flight : FlightNumber
  pub period : DayRange
  pub leg : LegValue

-- the legs of a flight on a period
abbrev pub piece_legs : FlightNumber → Piece → List FlightLeg
piece_legs flight piece =
    map (λ leg. record { flight = flight; period = piece.0; leg = leg }) piece.1

-- the legs of flights on their periods, in order
abbrev pub flight_legs : List Divided → List FlightLeg
flight_legs flights = flat_map (λ flight. flat_map (piece_legs flight.0) flight.1) flights

-- the rows of a leg of a flight, by the timetable's name and time mode, the flight's name and a
-- period
abbrev pub RowsOfLeg : Type 0
RowsOfLeg = List ℕ → TimeMode → List ℕ → DayRange → LegValue → List (List ℕ)

-- one row
abbrev pub one_row : RowsOfLeg
one_row name mode flight period leg = leg_row name mode flight period leg ∷ []

-- the rows of a leg of an airline's flight
abbrev pub rows_of_leg : RowsOfLeg → List ℕ → TimeMode → List ℕ → FlightLeg → List (List ℕ)
rows_of_leg rows name mode airline it =
    rows name mode (flight_name airline it.flight) it.period it.leg

-- the rows of the legs of an airline's flights
abbrev pub flight_rows : RowsOfLeg → List ℕ → TimeMode → List ℕ → List Divided → List (List ℕ)
flight_rows rows name mode airline flights =
    flat_map (rows_of_leg rows name mode airline) (flight_legs flights)

-- ---- law

-- whether a leg is of a flight, on a period that holds a day
abbrev pub is_row_on : FlightNumber → ℕ → FlightLeg → Bool
is_row_on flight day it = same_flight it.flight flight && holds it.period day

-- The law of the rows of `leg`: they are the timetable. The rows of a flight whose periods hold a
-- date are, in their order, the legs of its itinerary on this date. There are none if the flight
-- does not fly on it.
abbrev pub RowsAreItineraries : Type 0
RowsAreItineraries =
    (days : FlightNumber → Days) (flight : FlightNumber) (day : ℕ) → IsFlight flight
    → map (λ it. it.leg) (filter (is_row_on flight day) (flight_legs (divided_flights days)))
    ≡ on_day (days flight) day
