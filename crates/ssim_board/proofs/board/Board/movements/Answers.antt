-- The movements of the pieces are those of the timetable, and each has its time within a day.
use Rattle.std.proofs.Common.{◌≡◌, ◌∙◌, ◌++◌, List, IfOk, subst, sym, ap}
use Rattle.std.specs.List.{All}
use Rattle.std.proofs.lemmas.List.Elements.{All-from_recursion}
use Rattle.ssim_schedule.specs.FlightPieces.{Divided}
use Rattle.ssim_board.specs.InOrder.{by_time}
use Rattle.ssim_board.specs.internal.PieceMovements.{all_movements}
use Rattle.ssim_board.specs.declared.movement.Movement.{Movement}
use Rattle.ssim_board.proofs.OnBoard.{IsTimed, all_timed, near_same, of_timetable}
use Rattle.ssim_board.proofs.board.Board.movements.Goals as goal

pub in_order-requires : goal.in_order-requires
in_order-requires c =
    let all = all_movements c.args.self.now c.args.flights.now in
    let are : c.push_flights.new.movements.items ≡ all = c.in_ok-push_flights.ensures ∙ ap (λ (ms : List Movement). ms ++ all) c.new-movements.ensures.items in
    subst (λ (ms : List Movement). All IsTimed ms) (sym are) (All-from_recursion IsTimed all (all_timed c.args.self.now c.args.flights.now))

pub returns : goal.returns
returns c days near e agree =
    let board = c.args.self.now in
    let all = all_movements board c.args.flights.now in
    let are : c.push_flights.new.movements.items ≡ all = c.in_ok-push_flights.ensures ∙ ap (λ (ms : List Movement). ms ++ all) c.new-movements.ensures.items in
    subst (λ (ms : List Movement). IfOk c.in_order.result (λ sorted. sorted.items ≡ by_time ms))
    (are ∙ ap (λ (flights : List Divided). all_movements board flights) e ∙ of_timetable board near ∙ near_same board near days agree) c.in_order.ensures
