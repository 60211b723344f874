-- What the flight has on the board from one date more. On the dates before the first one, or on all if
-- it is never at the station, it has nothing there.
use Rattle.std.proofs.Common.{◌∙◌, ◌≤◌, ◌<◌, ◌-◌, ◌++◌, inl, inr, ℕ, List, subst, sym, ap, arith, append-nil}
use Rattle.std.specs.List.{flat_map, range_with_len}
use Rattle.ssim_base.specs.Export.{Piece}
use Rattle.ssim_listing.proofs.Ranges.{added_next, none_in}
use Rattle.ssim_board.specs.clauses.Movements.{first_date}
use Rattle.ssim_board.specs.internal.DaysThere.{AreWithin}
use Rattle.ssim_board.specs.internal.PieceMovements.{date_end, piece_movements}
use Rattle.ssim_board.specs.declared.movement.Movement.{Movement}
use Rattle.ssim_board.proofs.DaysThere.{all_counted, day_before_end, made_later, none_there}
use Rattle.ssim_board.proofs.Lists.{within_next}
use Rattle.ssim_board.proofs.board.Board.push_flight.Goals as goal

pub returns-then-days-eq0 : goal.returns-then-days-eq0
returns-then-days-eq0 c =
    let board = c.args.self.now in
    let flight = c.args.flight.now in
    let days = c.days_of_pieces-days.result in
    let within : AreWithin board days flight.1 =
    subst (λ (ps : List Piece). AreWithin board days ps) c.pieces.ensures
    c.days_of_pieces-days.ensures.within in
    let f : ℕ → List Movement = λ date. piece_movements board flight.0 date flight.1 in
    let first = first_date board in
    let none = none_in f first (date_end board - first)
    (λ k from to. none_there board flight.0 days k (inl c.if-days-eq0.true) flight.1 within) in
    let old = c.args.movements.now.items in
    sym (append-nil old) ∙ ap (λ (ys : List Movement). old ++ ys) (sym none)

pub loop-number-preserved : goal.loop-number-preserved
loop-number-preserved c =
    let board = c.args.self.now in
    let number = c.loop-number.number in
    let now = c.loop-number.movements.items in
    let from : ℕ = board.day - c.days_of_pieces-days.result in
    let f : ℕ → List Movement = λ date. piece_movements board c.args.flight.now.0 date c.args.flight.now.1 in
    let before : number < date_end board = subst (λ (n : ℕ). number < n) c.date_end-number-end.ensures.value c.loop-number-test.true in
    let begun : from ≤ number = c.loop-number.invariant.begun in
    record {
      begun = omega arith;
      within = within_next number from (date_end board) begun before;
      so_far = added_next f c.args.movements.now.items now c.push_pieces.new.movements.items from number begun c.loop-number.invariant.so_far
          (c.in_ok-push_pieces.ensures ∙ (λ i. now ++ piece_movements board (c.flight.ensures i) (c.in-Some.ensures.value i) (c.pieces-in-loop-number.ensures i)));
    }

pub returns : goal.returns
returns c =
    let board = c.args.self.now in
    let flight = c.args.flight.now in
    let days = c.days_of_pieces-days.result in
    let number = c.loop-number.number in
    let within : AreWithin board days flight.1 =
    subst (λ (ps : List Piece). AreWithin board days ps) c.pieces.ensures
    c.days_of_pieces-days.ensures.within in
    let f : ℕ → List Movement = λ date. piece_movements board flight.0 date flight.1 in
    let first = first_date board in
    let from : ℕ = board.day - days in
    let end' = date_end board in
    let past : end' ≤ number = subst (λ (n : ℕ). n ≤ number) c.date_end-number-end.ensures.value c.loop-number-test.false in
    let in_calendar : board.day ≤ 36524 = omega (arith, c.number.ensures.value, c.number.ensures.bound) in
    let low : first ≤ from = omega (arith, c.days_of_pieces-days.ensures.bound) in
    let high : from ≤ end' = day_before_end board days in_calendar in
    let none = λ (k : ℕ) (early : k < from). none_there board flight.0 days k
    (inr (omega (arith, early))) flight.1 within in
    let old = c.args.movements.now.items in
    c.loop-number.invariant.so_far
    ∙ ap (λ (n : ℕ). old ++ flat_map f (range_with_len from n)) (all_counted number from end' past c.loop-number.invariant.within)
    ∙ ap (λ (ys : List Movement). old ++ ys) (sym (made_later f first from end' low high none))
