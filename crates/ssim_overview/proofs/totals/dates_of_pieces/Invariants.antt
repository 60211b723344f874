-- The days of the pieces so far, if they fit.
use Rattle.std.proofs.Common.{◌≡◌, ◌<◌, ◌^◌, take}
use Rattle.ssim_overview.specs.internal.Totals.{dates_of_pieces}
use Rattle.ssim_overview.proofs.totals.dates_of_pieces.Given as goal

abbrev pub invariant-loop-piece : goal.invariant-loop-piece
invariant-loop-piece l = dates_of_pieces (take l.piece-index l.pieces) < 2 ^ 64
    → l.count ≡ dates_of_pieces (take l.piece-index l.pieces)
