-- One piece more, and the pieces of the days.
use Rattle.std.proofs.Common.{◌≡◌, ◌∙◌, ◌+◌, ◌∷◌, [], ◌++◌, List, take, sym, ap}
use Rattle.std.specs.Str.{bytes_eq}
use Rattle.std.proofs.lemmas.List.{take_all, take_more}
use Rattle.std.proofs.lemmas.Result.{IfOk-weaker}
use Rattle.ssim_periods.specs.Days.{each_day}
use Rattle.ssim_periods.specs.Pieces.{pieces_of}
use Rattle.ssim_difference.specs.Differences.{DifferencePiece}
use Rattle.ssim_outbox.specs.internal.ReasonPieces.{reason_after}
use Rattle.ssim_outbox.proofs.Divided.{more_after}
use Rattle.ssim_outbox.proofs.reason_pieces.reason_pieces.Goals as goal

pub loop-piece-preserved : goal.loop-piece-preserved
loop-piece-preserved c =
    let rows = c.args.rows.now in let pieces = c.args.pieces.now in
    let i = c.loop-piece.piece-index in let piece = c.piece-item.result in
    let more : take (i + 1) pieces ≡ take i pieces ++ piece ∷ [] =
    take_more pieces i piece c.loop-piece-test.true
    ∙ ap (λ (p : DifferencePiece). take i pieces ++ p ∷ []) (sym c.piece-item.is) in
    c.in_ok-put_reasons.ensures (reason_after rows (take i pieces) (λ n. [])) c.loop-piece.invariant
    ∙ ap each_day (sym (more_after rows (take i pieces) piece (λ n. [])))
    ∙ ap (λ (ps : List DifferencePiece). each_day (reason_after rows ps (λ n. []))) (sym more)

pub returns : goal.returns
returns c =
    let rows = c.args.rows.now in let pieces = c.args.pieces.now in
    let all = c.loop-piece.invariant
    ∙ ap (λ (ps : List DifferencePiece). each_day (reason_after rows ps (λ n. [])))
    (take_all c.loop-piece.piece-index pieces c.loop-piece-test.false) in
    IfOk-weaker c.pieces.result _ _ (λ found is. is ∙ ap (pieces_of bytes_eq []) all) c.pieces.ensures.pieces
