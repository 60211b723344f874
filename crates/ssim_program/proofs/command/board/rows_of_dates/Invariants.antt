-- The rows of the dates so far.
use Rattle.std.proofs.Common.{◌≡◌, ◌≤◌, ◌-◌, ◌++◌}
use Rattle.std.specs.List.{flat_map, range_with_len}
use Rattle.ssim_values.specs.Flight.{FlightNumber}
use Rattle.ssim_base.specs.Timetable.{Days}
use Rattle.ssim_listing.specs.Rows.{row}
use Rattle.ssim_schedule.specs.FlightPieces.{divided_flights}
use Rattle.ssim_schedule.specs.clauses.Dates.{AgreeBetween}
use Rattle.ssim_board.specs.Rows.{movement_names}
use Rattle.ssim_board.specs.clauses.Movements.{first_date, last_date}
use Rattle.ssim_program.specs.print.Board.{board_on, date_rows}
use Rattle.ssim_program.proofs.command.board.rows_of_dates.Given as goal

abbrev pub invariant-loop-number : goal.invariant-loop-number
invariant-loop-number l =
    let from = l.board.day in
    record {
      begun : from ≤ l.number;
      within : l.number - from ≤ l.end - from;
      so_far : (days near : FlightNumber → Days) → l.flights ≡ divided_flights near
          → AgreeBetween (first_date l.board) (last_date (board_on l.board (l.end - 1))) near days
          → l.rows ≡ row movement_names
          ++ flat_map (λ day. date_rows l.only l.airline days (board_on l.board day))
          (range_with_len from (l.number - from));
    }
