-- One piece more.
use Rattle.std.proofs.Common.{◌+◌, Bool, take}
use Rattle.ssim_parts.specs.ConversionLines.{is_kept, is_left, is_moved}
use Rattle.ssim_parts.specs.declared.fate.Fate.{Fate}
use Rattle.ssim_parts.specs.internal.Counted.{dates_in, days_if}
use Rattle.ssim_parts.proofs.CountedDates.{next_piece, one_added}
use Rattle.ssim_parts.proofs.date_counts.DateCounts.of_pieces.Goals as goal

pub loop-piece-preserved : goal.loop-piece-preserved
loop-piece-preserved c =
    let ps = c.args.pieces.now in
    let i = c.loop-piece.piece-index in
    let piece = c.piece-item.result in
    let so_far = λ (test : Fate → Bool). dates_in test (take i ps) in
    let now = λ (test : Fate → Bool). dates_in test (take (i + 1) ps) in
    let next = λ (test : Fate → Bool). next_piece test ps i piece c.loop-piece-test.true
    c.piece-item.is in
    record {
      kept = one_added _ _ _ (so_far is_kept) (days_if is_kept piece) (now is_kept)
          c.loop-piece.invariant.kept c.of_period.ensures.kept c.plus-counts.ensures.kept
          (next is_kept);
      moved = one_added _ _ _ (so_far is_moved) (days_if is_moved piece) (now is_moved)
          c.loop-piece.invariant.moved c.of_period.ensures.moved c.plus-counts.ensures.moved
          (next is_moved);
      left = one_added _ _ _ (so_far is_left) (days_if is_left piece) (now is_left)
          c.loop-piece.invariant.left c.of_period.ensures.left c.plus-counts.ensures.left
          (next is_left);
    }
