-- The stations of the pieces so far are marked, too.
use Rattle.std.proofs.Common.{take}
use Rattle.ssim_overview.specs.internal.Totals.{AddsMarks, is_in_pieces}
use Rattle.ssim_overview.proofs.station_marks.mark_pieces.Given as goal

abbrev pub invariant-loop-piece : goal.invariant-loop-piece
invariant-loop-piece l = AddsMarks (is_in_pieces (take l.piece-index l.pieces)) l.initial.marks l.marks
