-- The legs so far are at the station within these days.
use Rattle.std.proofs.Common.{◌≤◌, take}
use Rattle.std.specs.List.{AllByRecursion}
use Rattle.ssim_board.specs.internal.DaysThere.{IsWithin}
use Rattle.ssim_board.proofs.board.Board.days_of_legs.Given as goal

abbrev pub invariant-loop-leg : goal.invariant-loop-leg
invariant-loop-leg l = record {
  bound : l.days ≤ 10;
  within : AllByRecursion (IsWithin l.self l.days) (take l.leg-index l.legs);
}
