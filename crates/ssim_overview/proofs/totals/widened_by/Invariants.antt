-- The ends after the pieces so far.
use Rattle.std.proofs.Common.{◌≡◌, take}
use Rattle.ssim_overview.specs.internal.Totals.{widened_by}
use Rattle.ssim_overview.proofs.totals.widened_by.Given as goal

abbrev pub invariant-loop-piece : goal.invariant-loop-piece
invariant-loop-piece l = l.ends ≡ widened_by l.initial.ends (take l.piece-index l.pieces)
