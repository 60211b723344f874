-- One piece more.
use Rattle.std.proofs.Common.{◌+◌, take}
use Rattle.ssim_parts.specs.internal.Counted.{any_legs, dates_in, days_in}
use Rattle.ssim_parts.proofs.CountedDates.{next_piece, one_added}
use Rattle.ssim_parts.proofs.date_counts.dates_of_pieces.Goals as goal

pub loop-piece-preserved : goal.loop-piece-preserved
loop-piece-preserved c =
    let ps = c.args.pieces.now in
    let i = c.loop-piece.piece-index in
    let piece = c.piece-item.result in
    one_added _ c.number_of_days.result _ (dates_in any_legs (take i ps)) (days_in piece.0)
    (dates_in any_legs (take (i + 1) ps)) c.loop-piece.invariant c.number_of_days.ensures
    c.saturating_add-count.ensures
    (next_piece any_legs ps i piece c.loop-piece-test.true c.piece-item.is)
