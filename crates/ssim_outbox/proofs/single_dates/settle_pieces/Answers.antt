-- One piece more.
use Rattle.std.proofs.Common.{◌∙◌, ◌+◌, ◌||◌, List, take, sym, ap, subst}
use Rattle.std.proofs.lemmas.List.{take_all}
use Rattle.std.proofs.lemmas.List.Folds.{list_any_more}
use Rattle.ssim_difference.specs.Differences.{DifferencePiece}
use Rattle.ssim_outbox.specs.internal.Drafts.{Settles, dates_of_period, dates_of_pieces}
use Rattle.ssim_outbox.proofs.Settling.{fewer, one_after}
use Rattle.ssim_outbox.proofs.single_dates.settle_pieces.Goals as goal

pub loop-piece-preserved : goal.loop-piece-preserved
loop-piece-preserved c from to change_is is =
    let rows = c.args.rows.now in let flight = c.args.change.now.flight in
    let pieces = c.args.pieces.now in let i = c.loop-piece.piece-index in
    let piece = c.piece-item.result in
    let begun = c.loop-piece.invariant from to change_is is in
    let next = c.in_ok-settle_period.ensures from to change_is begun.draft in
    fewer rows from to
    (λ g n. dates_of_pieces flight (take i pieces) g n || dates_of_period flight piece.0 g n)
    (dates_of_pieces flight (take (i + 1) pieces)) c.args.draft.now c.settle_period.new.draft
    (λ g n _ _ h. sym (list_any_more (λ (p : DifferencePiece). dates_of_period flight p.0 g n) pieces i
    piece c.loop-piece-test.true
    ∙ ap (λ (p : DifferencePiece). dates_of_pieces flight (take i pieces) g n
    || dates_of_period flight p.0 g n) (sym c.piece-item.is)) ∙ h)
    (one_after rows from to (dates_of_pieces flight (take i pieces)) (dates_of_period flight piece.0)
    c.args.draft.now c.loop-piece.draft c.settle_period.new.draft begun next)

pub returns : goal.returns
returns c from to change_is is =
    subst (λ (ps : List DifferencePiece). Settles c.args.rows.now from to
    (dates_of_pieces c.args.change.now.flight ps) c.args.draft.now c.loop-piece.draft)
    (take_all c.loop-piece.piece-index c.args.pieces.now c.loop-piece-test.false)
    (c.loop-piece.invariant from to change_is is)
