-- One piece more.
use Rattle.std.proofs.Common.{◌≡◌, ◌∙◌, ◌+◌, take, sym, ap}
use Rattle.std.specs.List.{count_by}
use Rattle.std.proofs.lemmas.List.Sums.{sum_by_more}
use Rattle.ssim_periods.specs.Calendar.{holds}
use Rattle.ssim_base.specs.Export.{Piece}
use Rattle.ssim_overview.specs.Totals.{calendar}
use Rattle.ssim_overview.specs.internal.Totals.{dates_of_pieces}
use Rattle.ssim_overview.proofs.FlownDates.{saturated}
use Rattle.ssim_overview.proofs.totals.dates_of_pieces.Goals as goal

pub loop-piece-preserved : goal.loop-piece-preserved
loop-piece-preserved c fits =
    let pieces = c.args.pieces.now in let i = c.loop-piece.piece-index in
    let piece = c.piece-item.result in
    let more : dates_of_pieces (take (i + 1) pieces) ≡ dates_of_pieces (take i pieces) + count_by (holds piece.0) calendar =
    sum_by_more (λ (p : Piece). count_by (holds p.0) calendar) pieces i piece c.loop-piece-test.true
    ∙ ap (λ (p : Piece). dates_of_pieces (take i pieces) + count_by (holds p.0) calendar) (sym c.piece-item.is) in
    saturated c.loop-piece.count c.number_of_days.result c.saturating_add-count.result
    (dates_of_pieces (take i pieces)) (count_by (holds piece.0) calendar) (dates_of_pieces (take (i + 1) pieces))
    c.loop-piece.invariant c.number_of_days.ensures c.saturating_add-count.ensures more fits
