-- The days after the values so far.
use Rattle.std.proofs.Common.{◌≡◌, fold, take}
use Rattle.ssim_sql.specs.DayRows.{widened}
use Rattle.ssim_sql.proofs.days.with_pieces.Given as goal

abbrev pub invariant-loop-piece : goal.invariant-loop-piece
invariant-loop-piece l = l.days ≡ fold (λ within piece. widened within piece.0) l.initial.days (take l.piece-index l.pieces)
