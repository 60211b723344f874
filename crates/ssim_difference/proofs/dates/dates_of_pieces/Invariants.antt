-- The days of the pieces so far, if they fit.
use Rattle.std.proofs.Common.{◌≡◌, ◌<◌, ◌^◌, take}
use Rattle.ssim_difference.specs.internal.Counted.{dates_in}
use Rattle.ssim_difference.proofs.dates.dates_of_pieces.Given as goal

abbrev pub invariant-loop-piece : goal.invariant-loop-piece
invariant-loop-piece l = dates_in (take l.piece-index l.pieces) < 2 ^ 64
    → l.count ≡ dates_in (take l.piece-index l.pieces)
