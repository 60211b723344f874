-- What was put, and the pieces that are left, is all of it; and what was put is what records may
-- have.
use Rattle.std.proofs.Common.{◌≡◌, ◌+◌, ◌++◌, drop, take}
use Rattle.std.specs.List.{All}
use Rattle.ssim_base.specs.clauses.Sinks.{GrowsUpTo}
use Rattle.ssim_schedule.specs.internal.Plan.{HasWritableLegs, piece_lines, pieces_count}
use Rattle.ssim_schedule.proofs.export.lines.put_pieces.Given as goal

abbrev pub invariant-loop-piece : goal.invariant-loop-piece
invariant-loop-piece g l =
    let left = drop l.piece-index l.pieces in
    record {
      variation : l.variation ≡ l.piece-index + 1;
      next : l.next + pieces_count left ≡ l.serial + pieces_count l.pieces;
      puts : GrowsUpTo (l.fn.block ++ piece_lines l.airline l.flight 1 l.serial l.pieces)
          (l.block ++ piece_lines l.airline l.flight l.variation l.next left)
          (g.W.Sink.state l.fn.out) (g.W.Sink.state l.out);
      writable : All HasWritableLegs (take l.piece-index l.pieces);
    }
