-- What the flights so far have on the board was added.
use Rattle.std.proofs.Common.{◌≡◌, ◌++◌, take}
use Rattle.ssim_board.specs.internal.PieceMovements.{all_movements}
use Rattle.ssim_board.proofs.board.Board.push_flights.Given as goal

abbrev pub invariant-loop-flight : goal.invariant-loop-flight
invariant-loop-flight l =
    l.movements.items ≡ l.initial.movements.items ++ all_movements l.self (take l.flight-index l.flights)
