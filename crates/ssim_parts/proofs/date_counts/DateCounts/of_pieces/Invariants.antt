-- The dates of the pieces so far.
use Rattle.std.proofs.Common.{◌≡◌, take}
use Rattle.ssim_parts.specs.ConversionLines.{is_kept, is_left, is_moved}
use Rattle.ssim_parts.specs.internal.Counted.{capped, dates_in}
use Rattle.ssim_parts.proofs.date_counts.DateCounts.of_pieces.Given as goal

abbrev pub invariant-loop-piece : goal.invariant-loop-piece
invariant-loop-piece l =
    record {
      kept : l.counts.kept ≡ capped (dates_in is_kept (take l.piece-index l.pieces));
      moved : l.counts.moved ≡ capped (dates_in is_moved (take l.piece-index l.pieces));
      left : l.counts.left ≡ capped (dates_in is_left (take l.piece-index l.pieces));
    }
