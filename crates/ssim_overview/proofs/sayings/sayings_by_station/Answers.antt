-- What one flight more says.
use Rattle.std.proofs.Common.{List, map, arith, subst}
use Rattle.std.proofs.lemmas.List.{length-map}
use Rattle.ssim_base.specs.Export.{Piece}
use Rattle.ssim_schedule.specs.FlightPieces.{Divided}
use Rattle.ssim_overview.specs.internal.SaidRows.{AddsSayings, pieces_say}
use Rattle.ssim_overview.proofs.SaidStations.{are_more, nothing_said}
use Rattle.ssim_overview.proofs.sayings.sayings_by_station.Goals as goal

pub loop-flight-init : goal.loop-flight-init
loop-flight-init c =
    let sayings = c.in_ok-sayings.sayings.items in
    let same = length-map sayings (λ list. list.items) in
    let size = c.in_ok-sayings.ensures.len in
    nothing_said (map (λ list. list.items) sayings) (omega arith) c.in_ok-sayings.ensures.none

pub push_pieces-requires : goal.push_pieces-requires
push_pieces-requires c =
    let same = length-map c.loop-flight.sayings.items (λ list. list.items) in
    let size = c.loop-flight.invariant.len in omega arith

pub loop-flight-preserved : goal.loop-flight-preserved
loop-flight-preserved c =
    are_more (λ (f : Divided). pieces_say f.1) c.args.flights.now c.loop-flight.flight-index
    c.flight-item.result (map (λ list. list.items) c.loop-flight.sayings.items)
    (map (λ list. list.items) c.push_pieces.new.sayings.items) c.loop-flight-test.true c.flight-item.is
    c.loop-flight.invariant
    (subst (λ (ps : List Piece). AddsSayings (pieces_say ps)
    (map (λ list. list.items) c.loop-flight.sayings.items)
    (map (λ list. list.items) c.push_pieces.new.sayings.items)) c.pieces.ensures c.in_ok-push_pieces.ensures)
