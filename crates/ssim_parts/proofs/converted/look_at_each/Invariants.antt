-- The legs of the pieces so far are in order.
use Rattle.std.proofs.Common.{take}
use Rattle.std.specs.List.{AllByRecursion}
use Rattle.ssim_base.specs.Timetable.{Above}
use Rattle.ssim_parts.proofs.converted.look_at_each.Given as goal

abbrev pub invariant-loop-piece : goal.invariant-loop-piece
invariant-loop-piece l =
    AllByRecursion (λ piece. Above 0 piece.1) (take l.piece-index l.pieces)
