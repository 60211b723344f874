-- What one piece more says.
use Rattle.std.proofs.Common.{map, arith, subst}
use Rattle.std.proofs.lemmas.List.{length-map}
use Rattle.ssim_base.specs.Export.{Piece}
use Rattle.ssim_base.specs.Timetable.{Legs}
use Rattle.ssim_overview.specs.internal.SaidRows.{AddsSayings, legs_say}
use Rattle.ssim_overview.proofs.SaidStations.{adds_more, no_more}
use Rattle.ssim_overview.proofs.sayings.push_pieces.Goals as goal

pub loop-piece-init : goal.loop-piece-init
loop-piece-init c = no_more (map (λ list. list.items) c.args.sayings.now.items)

pub push_legs-requires : goal.push_legs-requires
push_legs-requires c =
    let same = length-map c.loop-piece.sayings.items (λ list. list.items) in
    let first = length-map c.args.sayings.now.items (λ list. list.items) in
    let size = c.loop-piece.invariant.len in let all = c.requires in omega arith

pub loop-piece-preserved : goal.loop-piece-preserved
loop-piece-preserved c =
    let piece = c.piece-item.result in
    adds_more (λ (p : Piece). legs_say p.0 p.1) c.args.pieces.now c.loop-piece.piece-index piece
    (map (λ list. list.items) c.args.sayings.now.items)
    (map (λ list. list.items) c.loop-piece.sayings.items)
    (map (λ list. list.items) c.push_legs.new.sayings.items) c.loop-piece-test.true c.piece-item.is
    c.loop-piece.invariant
    (subst (λ (legs : Legs). AddsSayings (legs_say piece.0 legs)
    (map (λ list. list.items) c.loop-piece.sayings.items)
    (map (λ list. list.items) c.push_legs.new.sayings.items)) c.legs.ensures c.in_ok-push_legs.ensures)
