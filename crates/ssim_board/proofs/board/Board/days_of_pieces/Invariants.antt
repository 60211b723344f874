-- The pieces so far are at the station within these days.
use Rattle.std.proofs.Common.{◌≤◌, take}
use Rattle.ssim_board.specs.internal.DaysThere.{AreWithin}
use Rattle.ssim_board.proofs.board.Board.days_of_pieces.Given as goal

abbrev pub invariant-loop-piece : goal.invariant-loop-piece
invariant-loop-piece l = record {
  bound : l.days ≤ 10;
  within : AreWithin l.self l.days (take l.piece-index l.pieces);
}
