-- The dates of the pieces so far.
use Rattle.std.proofs.Common.{◌≡◌, take}
use Rattle.ssim_listing.specs.internal.FlightDates.{dates_by_piece, seen_dates}
use Rattle.ssim_listing.proofs.dates.dates_of.Given as goal

abbrev pub invariant-loop-piece : goal.invariant-loop-piece
invariant-loop-piece g l = seen_dates l.dates.items ≡ dates_by_piece (take l.piece-index l.pieces)
