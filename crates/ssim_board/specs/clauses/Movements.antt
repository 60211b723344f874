-- The first and the last date of origin that can have a movement on a local date.
use Rattle.std.specs.Prelude.{ℕ, ◌+◌, ◌-◌, nat_lt, if◌then◌else◌}
use Rattle.ssim_board.specs.declared.board.Board.{Board}

-- ---- the dates of origin that can have something on a board

-- the first: ten days before the board's date
abbrev pub first_date : Board → ℕ
first_date board = board.day - 10

-- the last: the day after the board's date, if it is in the calendar
abbrev pub last_date : Board → ℕ
last_date board = if nat_lt board.day 36524 then board.day + 1 else 36524
