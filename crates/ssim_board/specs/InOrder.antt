-- Departures and arrivals by time.
use Rattle.std.specs.Prelude.{ℕ, Bool, true, false, ◌&&◌, nat_eq, List, ◌++◌, filter}
use Rattle.std.specs.List.{flat_map, range_with_len}
use Rattle.ssim_values.specs.Flight.{FlightNumber}
use Rattle.ssim_base.specs.Timetable.{Days}
use Rattle.ssim_board.specs.Movements.{movements}
use Rattle.ssim_board.specs.declared.board.Board.{Board}
use Rattle.ssim_board.specs.declared.movement.Movement.{Movement}
use Rattle.ssim_board.specs.declared.movement.MovementKind.{MovementKind}
use Rattle.ssim_board.specs.declared.movement.MovementKind.TheVariants.{Departure, Arrival}

-- the number of minutes from 0000 to 2400; opaque, so that their list is never written out
unfoldable pub minute_count : ℕ
minute_count = 1441

-- whether a movement is a departure
abbrev pub is_departure : MovementKind → Bool
is_departure Departure = true
is_departure Arrival = false

-- whether a movement is an arrival
abbrev pub is_arrival : MovementKind → Bool
is_arrival Departure = false
is_arrival Arrival = true

-- whether a movement is a departure at this minute
abbrev pub departs_at : ℕ → Movement → Bool
departs_at minute movement = nat_eq movement.time.minutes minute && is_departure movement.kind

-- whether a movement is an arrival at this minute
abbrev pub arrives_at : ℕ → Movement → Bool
arrives_at minute movement = nat_eq movement.time.minutes minute && is_arrival movement.kind

-- those of one minute: the departures, then the arrivals
abbrev pub of_minute : List Movement → ℕ → List Movement
of_minute all minute = filter (departs_at minute) all ++ filter (arrives_at minute) all

-- minute by minute, from 0000 to 2400, the departures and then the arrivals, each in their order
unfoldable pub by_time : List Movement → List Movement
by_time all = flat_map (of_minute all) (range_with_len 0 minute_count)

-- The board of a timetable: its departures and arrivals at the station on the local date, by time,
-- departures first, then by flight, date of origin and leg sequence.
abbrev pub board_of : Board → (FlightNumber → Days) → List Movement
board_of board days = by_time (movements board days)
