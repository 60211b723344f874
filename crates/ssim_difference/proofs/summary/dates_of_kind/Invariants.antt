-- The days of the pieces so far.
use Rattle.std.proofs.Common.{◌≡◌, take}
use Rattle.ssim_difference.specs.internal.KindCounts.{capped, dates_of_kind}
use Rattle.ssim_difference.proofs.summary.dates_of_kind.Given as goal

abbrev pub invariant-loop-piece : goal.invariant-loop-piece
invariant-loop-piece l = l.count ≡ capped (dates_of_kind l.kind (take l.piece-index l.pieces))
