-- The board of a station on one date or on several, as `board` prints it.
use Rattle.std.specs.Prelude.{ℕ, ◌-◌, if◌then◌else◌, min, List, ◌∷◌, ◌++◌, Option, None, Some}
use Rattle.std.specs.Prelude.{map, option_map, unwrap_or}
use Rattle.std.specs.List.{flat_map, range_with_len}
use Rattle.ssim_values.specs.Day.{day_text}
use Rattle.ssim_values.specs.Calendar.{day_limit}
use Rattle.ssim_values.specs.Flight.{FlightNumber}
use Rattle.ssim_base.specs.Export.{line}
use Rattle.ssim_base.specs.Timetable.{Days}
use Rattle.ssim_listing.specs.Rows.{row}
use Rattle.ssim_board.specs.InOrder.{board_of}
use Rattle.ssim_board.specs.Kinds.{of_kind}
use Rattle.ssim_board.specs.Lines.{board_lines}
use Rattle.ssim_board.specs.Rows.{movement_names, movement_rows}
use Rattle.ssim_board.specs.declared.board.Board.{Board}
use Rattle.ssim_board.specs.declared.movement.MovementKind.{MovementKind}
use Rattle.ssim_board.specs.declared.movement.MovementKind.TheVariants.{Departure, Arrival}
use Rattle.ssim_command_line.specs.declared.board_form.BoardForm.{BoardForm}
use Rattle.ssim_command_line.specs.declared.board_form.Direction.{Direction}
use Rattle.ssim_command_line.specs.declared.board_form.Direction.TheVariants.{Departures, Arrivals}
use Rattle.ssim_program.specs.print.Blocks.{blocks}

-- the movements of a direction
abbrev pub kind_of : Direction → MovementKind
kind_of Departures = Departure
kind_of Arrivals = Arrival

-- the lines of one date: of its departures and arrivals, or of one direction alone
abbrev pub date_lines : Option Direction → List ℕ → (FlightNumber → Days) → Board → List ℕ
date_lines only airline days board =
    board_lines airline board.day (of_kind (option_map kind_of only) (board_of board days))

-- the lines of one date under a heading, its station and date
abbrev pub headed_lines : Option Direction → List ℕ → (FlightNumber → Days) → Board → List ℕ
headed_lines only airline days board =
    line (board.station ++ 32 ∷ day_text board.day) ++ date_lines only airline days board

-- the board of the same station on another date
abbrev pub board_on : Board → ℕ → Board
board_on board day = record { station = board.station; day = day; mode = board.mode }

-- the dates from one on, as many as these, but none after the last of the calendar
abbrev pub dates_from : ℕ → ℕ → List ℕ
dates_from day count = range_with_len day (min count (day_limit - day))

-- one date without a heading, or several, with an empty line between two
abbrev pub lines_of_days : Option ℕ → Option Direction → List ℕ → (FlightNumber → Days) → Board
    → List ℕ
lines_of_days None only airline days board = date_lines only airline days board
lines_of_days (Some count) only airline days board =
    blocks (map (λ day. headed_lines only airline days (board_on board day))
    (dates_from board.day count))

-- the rows of one date: of its departures and arrivals, or of one direction alone
abbrev pub date_rows : Option Direction → List ℕ → (FlightNumber → Days) → Board → List ℕ
date_rows only airline days board =
    movement_rows airline board.station board.day
    (of_kind (option_map kind_of only) (board_of board days))

-- the names of the fields, and the rows of as many dates
abbrev pub rows_of_days : ℕ → Option Direction → List ℕ → (FlightNumber → Days) → Board → List ℕ
rows_of_days count only airline days board =
    row movement_names ++ flat_map (λ day. date_rows only airline days (board_on board day))
    (dates_from board.day count)

-- the board as the options say: as rows, of one date if no number is named, or as lines
abbrev pub printed_board : BoardForm → List ℕ → (FlightNumber → Days) → Board → List ℕ
printed_board form airline days board =
    if form.csv then rows_of_days (unwrap_or form.days 1) form.only airline days board
    else lines_of_days form.days form.only airline days board
