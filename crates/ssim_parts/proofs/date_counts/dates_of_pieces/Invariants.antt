-- The dates of the pieces so far.
use Rattle.std.proofs.Common.{◌≡◌, take}
use Rattle.ssim_parts.specs.internal.Counted.{any_legs, capped, dates_in}
use Rattle.ssim_parts.proofs.date_counts.dates_of_pieces.Given as goal

abbrev pub invariant-loop-piece : goal.invariant-loop-piece
invariant-loop-piece l = l.count ≡ capped (dates_in any_legs (take l.piece-index l.pieces))
