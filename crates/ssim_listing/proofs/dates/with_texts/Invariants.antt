-- The pieces so far with the texts of their legs.
use Rattle.std.proofs.Common.{◌≡◌, take}
use Rattle.ssim_listing.specs.internal.FlightDates.{seen_pieces, with_texts}
use Rattle.ssim_listing.proofs.dates.with_texts.Given as goal

abbrev pub invariant-loop-piece : goal.invariant-loop-piece
invariant-loop-piece l = seen_pieces l.made.items ≡ with_texts (take l.piece-index l.pieces)
