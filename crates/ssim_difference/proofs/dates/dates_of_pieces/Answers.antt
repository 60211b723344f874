-- One piece more.
use Rattle.std.proofs.Common.{◌≡◌, ◌∙◌, ◌+◌, take, sym, ap}
use Rattle.std.proofs.lemmas.List.Sums.{sum_by_more}
use Rattle.ssim_difference.specs.Differences.{DifferencePiece}
use Rattle.ssim_difference.specs.internal.Counted.{dates_in, days_in}
use Rattle.ssim_difference.proofs.DateCounts.{saturated}
use Rattle.ssim_difference.proofs.dates.dates_of_pieces.Goals as goal

pub loop-piece-preserved : goal.loop-piece-preserved
loop-piece-preserved c fits =
    let pieces = c.args.pieces.now in let i = c.loop-piece.piece-index in
    let piece = c.piece-item.result in
    let more : dates_in (take (i + 1) pieces) ≡ dates_in (take i pieces) + days_in piece.0 =
    sum_by_more (λ (p : DifferencePiece). days_in p.0) pieces i piece c.loop-piece-test.true
    ∙ ap (λ (p : DifferencePiece). dates_in (take i pieces) + days_in p.0) (sym c.piece-item.is) in
    saturated c.loop-piece.count c.in_ok-days.days c.saturating_add-count.result
    (dates_in (take i pieces)) (days_in piece.0) (dates_in (take (i + 1) pieces))
    c.loop-piece.invariant c.in_ok-days.ensures c.saturating_add-count.ensures more fits
