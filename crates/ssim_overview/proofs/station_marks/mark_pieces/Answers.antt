-- One piece more.
use Rattle.std.proofs.Common.{◌∙◌, ◌+◌, ◌||◌, take, ap, sym}
use Rattle.std.proofs.lemmas.List.Folds.{list_any_more}
use Rattle.ssim_base.specs.Export.{Piece}
use Rattle.ssim_base.specs.Timetable.{Legs}
use Rattle.ssim_overview.specs.Totals.{serves}
use Rattle.ssim_overview.specs.internal.Totals.{is_in_pieces}
use Rattle.ssim_overview.proofs.StationMarks.{more_marks}
use Rattle.ssim_overview.proofs.station_marks.mark_pieces.Goals as goal

pub loop-piece-preserved : goal.loop-piece-preserved
loop-piece-preserved c =
    let pieces = c.args.pieces.now in let i = c.loop-piece.piece-index in let piece = c.piece-item.result in
    more_marks (is_in_pieces (take i pieces)) (λ station. serves station c.legs.result.now)
    (is_in_pieces (take (i + 1) pieces)) _ c.loop-piece.marks c.mark_legs.new.marks
    (λ station. list_any_more (λ (p : Piece). serves station p.1) pieces i piece c.loop-piece-test.true
    ∙ ap (λ (p : Piece). is_in_pieces (take i pieces) station || serves station p.1) (sym c.piece-item.is)
    ∙ ap (λ (legs : Legs). is_in_pieces (take i pieces) station || serves station legs) (sym c.legs.ensures))
    c.loop-piece.invariant c.mark_legs.ensures
