-- Movements as the code sorts them.
use Rattle.std.specs.Prelude.{ℕ, ◌+◌, ◌*◌}
use Rattle.ssim_board.specs.declared.movement.Movement.{Movement}
use Rattle.ssim_board.specs.declared.movement.MovementKind.{MovementKind}
use Rattle.ssim_board.specs.declared.movement.MovementKind.TheVariants.{Departure, Arrival}

-- 0 for a departure, 1 for an arrival
abbrev pub kind_number : MovementKind → ℕ
kind_number Departure = 0
kind_number Arrival = 1

-- the place of a movement in a day: two a minute, departures before arrivals
abbrev pub rank : Movement → ℕ
rank movement = 2 * movement.time.minutes + kind_number movement.kind
