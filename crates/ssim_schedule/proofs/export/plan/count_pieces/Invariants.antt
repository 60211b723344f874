-- The count so far and the count of what is left are the whole count.
use Rattle.std.proofs.Common.{◌≡◌, ◌<◌, ◌+◌, drop}
use Rattle.ssim_schedule.specs.internal.Plan.{pieces_count}
use Rattle.ssim_schedule.proofs.export.plan.count_pieces.Given as goal

abbrev pub invariant-loop-piece : goal.invariant-loop-piece
invariant-loop-piece l = record {
  room : l.count < 999999;
  all : l.count + pieces_count (drop l.piece-index l.pieces) ≡ l.before + pieces_count l.pieces;
}
