-- What the flight has on the board from the dates so far was added.
use Rattle.std.proofs.Common.{◌≡◌, ◌≤◌, ◌++◌, ◌-◌}
use Rattle.std.specs.List.{flat_map, range_with_len}
use Rattle.ssim_board.specs.internal.PieceMovements.{date_end, piece_movements}
use Rattle.ssim_board.proofs.board.Board.push_flight.Given as goal

abbrev pub invariant-loop-number : goal.invariant-loop-number
invariant-loop-number l =
    let from = l.self.day - l.days in
    record {
      begun : from ≤ l.number;
      within : l.number - from ≤ date_end l.self - from;
      so_far : l.movements.items
          ≡ l.initial.movements.items ++ flat_map (λ date. piece_movements l.self l.flight.0 date l.flight.1) (range_with_len from (l.number - from));
    }
