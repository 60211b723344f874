-- What the pieces so far have on the board was added.
use Rattle.std.proofs.Common.{◌≡◌, ◌++◌, take}
use Rattle.ssim_board.specs.internal.PieceMovements.{piece_movements}
use Rattle.ssim_board.proofs.board.Board.push_pieces.Given as goal

abbrev pub invariant-loop-piece : goal.invariant-loop-piece
invariant-loop-piece l =
    l.movements.items ≡ l.initial.movements.items ++ piece_movements l.self l.flight l.date (take l.piece-index l.pieces)
