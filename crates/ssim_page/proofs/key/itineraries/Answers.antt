-- The different itineraries of one piece more.
use Rattle.std.proofs.Common.{◌≡◌, ◌∙◌, ◌<◌, ◌≤◌, [], List, rules, Some, length, map, slice_get, ap, sym, arith}
use Rattle.std.proofs.lemmas.Option.{slice_get-get_or, slice_get-map}
use Rattle.std.specs.Prelude.{option_map}
use Rattle.ssim_base.specs.Export.{Piece, same_itinerary}
use Rattle.ssim_base.specs.clauses.ItineraryLaws.{exact_itinerary}
use Rattle.ssim_base.specs.Timetable.{Legs}
use Rattle.ssim_calendar.proofs.NewValues.{new_more, there}
use Rattle.ssim_calendar.specs.Letters.{new_values}
use Rattle.ssim_page.proofs.key.itineraries.Goals as goal

pub loop-piece-preserved : goal.loop-piece-preserved
loop-piece-preserved c =
    let pieces = c.args.pieces.now in let n = c.loop-piece.piece-index in
    let piece = c.piece-item.result in
    let legs = λ (p : Piece). p.1 in
    let values : List Legs = map legs pieces in
    let within : n < length pieces = c.loop-piece-test.true in
    let at : slice_get values n ≡ Some piece.1 =
    slice_get-map legs pieces n
    ∙ ap (option_map legs) (slice_get-get_or pieces n piece within ∙ ap Some (sym c.piece-item.is)) in
    let before : n < length values = there values n piece.1 at in
    let up_to : n ≤ length values = omega arith in
    c.in_ok-add_new.ensures ∙ sym
    (new_more same_itinerary [] exact_itinerary values c.loop-piece.found n piece.1 up_to at
    c.loop-piece.invariant)

pub returns : goal.returns
returns c =
    let values : List Legs = map (λ (p : Piece). p.1) c.args.pieces.now in let n = c.loop-piece.piece-index in
    let done = c.loop-piece-test.false in let to = c.loop-piece.auto in
    let all : n ≡ length c.args.pieces.now = search (rules, arith) in
    c.loop-piece.invariant ∙ ap (new_values same_itinerary [] values) all
