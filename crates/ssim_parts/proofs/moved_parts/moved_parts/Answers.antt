-- One piece more.
use Rattle.std.proofs.Common.{◌≡◌, ◌∙◌, ◌+◌, ◌++◌, ◌∷◌, [], List, map, take, ap, sym, subst}
use Rattle.std.proofs.Common.{if◌then◌else◌}
use Rattle.ssim_periods.specs.Calendar.{holds}
use Rattle.std.proofs.lemmas.List.{take_all, take_more}
use Rattle.ssim_periods.specs.Pieces.{held_on}
use Rattle.ssim_base.specs.Export.{Piece}
use Rattle.ssim_base.specs.Timetable.{Above, Legs}
use Rattle.ssim_parts.specs.MovedLegs.{moved_flight}
use Rattle.ssim_parts.proofs.Parting.{all_at, piece_more}
use Rattle.ssim_parts.proofs.moved_parts.moved_parts.Goals as goal

pub loop-piece-preserved : goal.loop-piece-preserved
loop-piece-preserved c =
    let rows = c.args.rows.now in
    let wanted = c.args.wanted in
    let pieces = c.args.pieces.now in
    let i = c.loop-piece.piece-index in
    let piece = c.piece-item.result in
    let more : take (i + 1) pieces ≡ take i pieces ++ piece ∷ [] =
    take_more pieces i piece c.loop-piece-test.true
    ∙ ap (λ (p : Piece). take i pieces ++ p ∷ []) (sym c.piece-item.is) in
    let l = c.loop-piece in
    record {
      held = λ n.
          piece_more rows wanted (take i pieces) piece l.parts.items c.add_parts.new.parts.items n
          (l.invariant.held n)
          (c.in_ok-add_parts.ensures.held n
          ∙ ap (λ (legs : Legs). held_on l.parts.items n
          ++ (if holds piece.0 n then moved_flight rows wanted n legs ∷ [] else [])) c.legs.ensures)
          ∙ ap (λ (ps : List Piece). map (moved_flight rows wanted n) (held_on ps n)) (sym more);
      fit = λ above.
          c.in_ok-add_parts.ensures.fit
          (subst (Above 0) (ap (λ (p : Piece). p.1) (sym c.piece-item.is) ∙ sym c.legs.ensures)
          (all_at (λ (p : Piece). Above 0 p.1) pieces i piece c.loop-piece-test.true above))
          (l.invariant.fit above);
    }

pub returns-clause-held : goal.returns-clause-held
returns-clause-held c = λ n.
    c.loop-piece.invariant.held n
    ∙ ap (λ (ps : List Piece). map (moved_flight c.args.rows.now c.args.wanted n) (held_on ps n))
    (take_all c.loop-piece.piece-index c.args.pieces.now c.loop-piece-test.false)

pub returns-clause-fit : goal.returns-clause-fit
returns-clause-fit c = λ above. c.loop-piece.invariant.fit above
