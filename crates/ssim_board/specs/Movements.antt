-- The departures and arrivals of a timetable at a station on a local date.
use Rattle.std.specs.Prelude.{◌≡◌, ◌⊎◌, ◌<◌, ℕ, ◌+◌, Bool, ◌&&◌, nat_eq, if◌then◌else◌, List, []}
use Rattle.std.specs.Prelude.{◌∷◌, ◌++◌}
use Rattle.std.specs.List.{flat_map, range_with_len}
use Rattle.std.specs.Str.{bytes_eq}
use Rattle.ssim_values.specs.Flight.{FlightNumber}
use Rattle.ssim_values.specs.declared.time_mode.TimeMode.{TimeMode}
use Rattle.ssim_periods.specs.Calendar.{day_count}
use Rattle.ssim_records.specs.Leg.{leg_columns}
use Rattle.ssim_base.specs.Export.{all_flights}
use Rattle.ssim_base.specs.Timetable.{Days, LegValue, on_day}
use Rattle.ssim_board.specs.LegTimes.{arrival_time, arrival_utc, departure_time, departure_utc}
use Rattle.ssim_board.specs.LegTimes.{is_uncertain}
use Rattle.ssim_board.specs.LocalTime.{Moment}
use Rattle.ssim_board.specs.declared.board.Board.{Board}
use Rattle.ssim_board.specs.declared.movement.Movement.{Movement}
use Rattle.ssim_board.specs.declared.movement.MovementKind.{MovementKind}
use Rattle.ssim_board.specs.declared.movement.MovementKind.TheVariants.{Departure, Arrival}

-- ---- one leg of a flight on one date of origin

-- the station of an end of a leg
abbrev pub station_of : List ℕ → MovementKind → List ℕ
station_of columns Departure = leg_columns 37 39 columns
station_of columns Arrival = leg_columns 55 57 columns

-- the local time of an end of a leg
abbrev pub time_of : TimeMode → ℕ → List ℕ → MovementKind → Moment
time_of mode date columns Departure = departure_time mode date columns
time_of mode date columns Arrival = arrival_time mode date columns

-- the UTC time of an end of a leg
abbrev pub utc_time_of : TimeMode → ℕ → List ℕ → MovementKind → Moment
utc_time_of mode date columns Departure = departure_utc mode date columns
utc_time_of mode date columns Arrival = arrival_utc mode date columns

-- the other end of a leg
abbrev pub other_end : MovementKind → MovementKind
other_end Departure = Arrival
other_end Arrival = Departure

-- the departure or the arrival of a leg
unfoldable pub movement : Board → FlightNumber → ℕ → LegValue → MovementKind → Movement
movement board flight date leg kind = record {
  kind = kind;
  time = time_of board.mode date leg.columns kind;
  flight = flight;
  date = date;
  sequence = leg.sequence;
  aircraft_type = leg_columns 73 75 leg.columns;
  other_station = station_of leg.columns (other_end kind);
  other_time = time_of board.mode date leg.columns (other_end kind);
  is_uncertain = is_uncertain board.mode leg.columns;
}

-- whether an end of a leg is at the board's station on its local date
unfoldable pub is_there : Board → ℕ → LegValue → MovementKind → Bool
is_there board date leg kind =
    bytes_eq (station_of leg.columns kind) board.station
    && nat_eq (time_of board.mode date leg.columns kind).days (board.day + 1)

-- what a leg has on the board at one of its ends
abbrev pub end_movements : Board → FlightNumber → ℕ → LegValue → MovementKind → List Movement
end_movements board flight date leg kind =
    if is_there board date leg kind then movement board flight date leg kind ∷ [] else []

-- what a leg has on the board: its departure, its arrival, both or nothing
unfoldable pub leg_movements : Board → FlightNumber → ℕ → LegValue → List Movement
leg_movements board flight date leg =
    end_movements board flight date leg Departure ++ end_movements board flight date leg Arrival

-- ---- the whole timetable

-- what a flight with these days has on the board from one date of origin
abbrev pub date_movements : Board → FlightNumber → Days → ℕ → List Movement
date_movements board flight days date =
    flat_map (leg_movements board flight date) (on_day days date)

-- what a flight has on the board, from all dates of origin
abbrev pub flight_movements : Board → (FlightNumber → Days) → FlightNumber → List Movement
flight_movements board days flight =
    flat_map (date_movements board flight (days flight)) (range_with_len 0 day_count)

-- what all flights have on the board: flights by number and suffix, dates of origin as they come,
-- legs by sequence
unfoldable pub movements : Board → (FlightNumber → Days) → List Movement
movements board days = flat_map (flight_movements board days) all_flights

-- ---- the dates of origin that can have something on a board

-- The law of near dates: a date of origin more than ten days before the board's date, or more than
-- a day after it, has nothing on the board.
abbrev pub OnlyNearDates : Type 0
OnlyNearDates = (board : Board) (flight : FlightNumber) (days : Days) (date : ℕ)
    → (date + 10 < board.day) ⊎ (board.day + 1 < date) → date_movements board flight days date ≡ []
