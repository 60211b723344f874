-- The parts of the pieces so far.
use Rattle.std.proofs.Common.{◌≡◌, ℕ, map, take}
use Rattle.std.specs.List.{AllByRecursion}
use Rattle.ssim_periods.specs.Pieces.{held_on}
use Rattle.ssim_base.specs.Timetable.{Above}
use Rattle.ssim_parts.specs.MovedLegs.{moved_flight}
use Rattle.ssim_parts.specs.internal.Placed.{IsFit}
use Rattle.ssim_parts.proofs.moved_parts.moved_parts.Given as goal

abbrev pub invariant-loop-piece : goal.invariant-loop-piece
invariant-loop-piece l = record {
  held : (n : ℕ) → held_on l.parts.items n
      ≡ map (moved_flight l.rows l.wanted n) (held_on (take l.piece-index l.pieces) n);
  fit : AllByRecursion (λ piece. Above 0 piece.1) l.pieces → AllByRecursion IsFit l.parts.items;
}
