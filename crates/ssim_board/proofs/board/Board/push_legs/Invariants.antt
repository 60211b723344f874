-- What the legs so far have on the board was added.
use Rattle.std.proofs.Common.{◌≡◌, ◌++◌, take}
use Rattle.std.specs.List.{flat_map}
use Rattle.ssim_board.specs.Movements.{leg_movements}
use Rattle.ssim_board.proofs.board.Board.push_legs.Given as goal

abbrev pub invariant-loop-leg : goal.invariant-loop-leg
invariant-loop-leg l =
    l.movements.items ≡ l.initial.movements.items ++ flat_map (leg_movements l.self l.flight l.date) (take l.leg-index l.legs)
