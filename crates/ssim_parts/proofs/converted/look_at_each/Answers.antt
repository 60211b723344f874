-- The legs of a piece are found in order, or are those of its first day in the old timetable, which are.
use Rattle.std.proofs.Common.{◌≡◌, ◌∙◌, ◌+◌, ◌++◌, ℕ, [], ◌∷◌, ◌≤◌, ◌<◌, length, take, sym, ap, subst}
use Rattle.std.proofs.Common.{true}
use Rattle.std.proofs.Common.{get_or}
use Rattle.std.specs.List.{AllByRecursion}
use Rattle.std.proofs.lemmas.List.{take_all, take_more}
use Rattle.std.proofs.lemmas.List.Elements.{All-get_or}
use Rattle.ssim_periods.specs.Calendar.{holds}
use Rattle.ssim_periods.specs.Pieces.{ArePieces}
use Rattle.ssim_periods.proofs.PieceLaw.{pieces_law}
use Rattle.ssim_base.specs.Export.{Piece, same_itinerary}
use Rattle.ssim_base.specs.clauses.ItineraryLaws.{exact_itinerary}
use Rattle.ssim_base.specs.Timetable.{Above, on_day}
use Rattle.ssim_schedule.specs.clauses.Schedule.{days_in}
use Rattle.ssim_parts.proofs.Parting.{all_both, piece_at}
use Rattle.ssim_parts.proofs.converted.look_at_each.Goals.{then-not-are_above, else-not-are_above}
use Rattle.ssim_parts.proofs.converted.look_at_each.Goals as goal

pub loop-piece-preserved : goal.loop-piece-preserved
loop-piece-preserved c =
    let pieces = c.args.pieces.now in
    let i = c.loop-piece.piece-index in
    let piece = c.piece-item.result in
    let days = days_in c.args.old.now c.args.flight.now in
    let law : ArePieces same_itinerary [] days pieces =
    subst (ArePieces same_itinerary [] days) (sym c.requires)
    (pieces_law same_itinerary [] exact_itinerary days) in
    let first = piece.0.first in
    let within = c.loop-piece-test.true in
    let more : take (i + 1) pieces ≡ take i pieces ++ piece ∷ [] =
    take_more pieces i piece within
    ∙ ap (λ (p : Piece). take i pieces ++ p ∷ []) (sym c.piece-item.is) in
    let begins = All-get_or
    (λ (p : Piece). (p.0.first ≤ p.0.last) × (p.0.last < length days) × (holds p.0 p.0.first ≡ true))
    pieces i piece within law.each_begins in
    let at : (get_or pieces i piece).0.first ≡ first =
    ap (λ (p : Piece). p.0.first) (sym c.piece-item.is) in
    let held : holds (get_or pieces i piece).0 first ≡ true =
    subst (λ (n : ℕ). holds (get_or pieces i piece).0 n ≡ true) at begins.2 in
    let has : piece.1 ≡ on_day days first =
    ap (λ (p : Piece). p.1) c.piece-item.is
    ∙ piece_at pieces i piece first (on_day days first) within held (law.on_each_day first) in
    let in_order : Above 0 piece.1 = elim c.if-not-are_above.branch [
      | then-not-are_above w ↦
          let legs : w.itinerary.result.now ≡ piece.1 =
          w.itinerary.ensures.value ∙ ap (on_day days) w.first.ensures.value ∙ sym has in
          subst (Above 0) legs w.itinerary.ensures.in_order
      | else-not-are_above w ↦
          subst (Above 0) c.legs.ensures (c.are_above.ensures w.if-not-are_above.false)
    ] in
    subst (AllByRecursion (λ piece. Above 0 piece.1)) (sym more)
    (all_both (λ (p : Piece). Above 0 p.1) (take i pieces) (piece ∷ []) c.loop-piece.invariant
    (in_order, tt))

pub returns : goal.returns
returns c =
    subst (AllByRecursion (λ piece. Above 0 piece.1))
    (take_all c.loop-piece.piece-index c.args.pieces.now c.loop-piece-test.false)
    c.loop-piece.invariant
