-- The days have the reasons that the pieces so far give.
use Rattle.std.proofs.Common.{◌≡◌, [], take}
use Rattle.ssim_periods.specs.Days.{each_day}
use Rattle.ssim_outbox.specs.internal.ReasonPieces.{reason_after}
use Rattle.ssim_outbox.proofs.reason_pieces.reason_pieces.Given as goal

abbrev pub invariant-loop-piece : goal.invariant-loop-piece
invariant-loop-piece l =
    l.reasons.days ≡ each_day (reason_after l.rows (take l.piece-index l.pieces) (λ n. []))
