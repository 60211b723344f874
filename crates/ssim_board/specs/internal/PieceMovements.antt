-- Movements as the code finds them: flights with their pieces, on the dates of origin that can have
-- something on the board.
use Rattle.std.specs.Prelude.{ℕ, ◌+◌, ◌-◌, if◌then◌else◌, List, []}
use Rattle.std.specs.List.{flat_map, range_with_len}
use Rattle.ssim_values.specs.Flight.{FlightNumber}
use Rattle.ssim_periods.specs.Calendar.{holds}
use Rattle.ssim_base.specs.Export.{Piece}
use Rattle.ssim_schedule.specs.FlightPieces.{Divided}
use Rattle.ssim_board.specs.clauses.Movements.{first_date, last_date}
use Rattle.ssim_board.specs.Movements.{leg_movements}
use Rattle.ssim_board.specs.declared.board.Board.{Board}
use Rattle.ssim_board.specs.declared.movement.Movement.{Movement}

-- the day after the last date of origin that can have something on the board
abbrev pub date_end : Board → ℕ
date_end board = last_date board + 1

-- what a piece has on the board, if it holds the date of origin
abbrev pub on_date : Board → FlightNumber → ℕ → Piece → List Movement
on_date board flight date piece =
    if holds piece.0 date then flat_map (leg_movements board flight date) piece.1 else []

-- what the pieces of a flight have on the board from a date of origin
abbrev pub piece_movements : Board → FlightNumber → ℕ → List Piece → List Movement
piece_movements board flight date pieces = flat_map (on_date board flight date) pieces

-- what a flight has on the board, date by date
abbrev pub divided_movements : Board → Divided → List Movement
divided_movements board flight =
    flat_map (λ date. piece_movements board flight.0 date flight.1)
    (range_with_len (first_date board) (date_end board - first_date board))

-- what flights have on the board
abbrev pub all_movements : Board → List Divided → List Movement
all_movements board flights = flat_map (divided_movements board) flights
