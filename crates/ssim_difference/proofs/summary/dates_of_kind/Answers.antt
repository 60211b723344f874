-- One piece more.
use Rattle.std.proofs.Common.{◌+◌, take}
use Rattle.ssim_parts.proofs.CountedDates.{next_piece, one_added}
use Rattle.ssim_difference.specs.internal.KindCounts.{dates_of_kind, days_of_kind, has_kind}
use Rattle.ssim_difference.proofs.summary.dates_of_kind.Goals as goal

pub loop-piece-preserved : goal.loop-piece-preserved
loop-piece-preserved c =
    let kind = c.args.kind in
    let ps = c.args.pieces.now in
    let i = c.loop-piece.piece-index in
    let piece = c.piece-item.result in
    one_added _ c.days_of_kind.result _ (dates_of_kind kind (take i ps)) (days_of_kind kind piece)
    (dates_of_kind kind (take (i + 1) ps)) c.loop-piece.invariant c.days_of_kind.ensures
    c.saturating_add-count.ensures
    (next_piece (has_kind kind) ps i piece c.loop-piece-test.true c.piece-item.is)
