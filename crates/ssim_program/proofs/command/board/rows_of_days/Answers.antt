-- The flights are right near all of the dates.
use Rattle.std.proofs.Common.{◌≡◌, ◌∙◌, ◌-◌, ◌++◌, ℕ, List, min, ap, subst, arith}
use Rattle.std.specs.List.{flat_map, range_with_len}
use Rattle.ssim_base.proofs.Results.{if_ok}
use Rattle.ssim_listing.specs.Rows.{row}
use Rattle.ssim_schedule.specs.FlightPieces.{divided_flights}
use Rattle.ssim_schedule.specs.clauses.Dates.{AgreeBetween}
use Rattle.ssim_desk.specs.Desk.{days_of_desk}
use Rattle.ssim_board.specs.Rows.{movement_names}
use Rattle.ssim_board.specs.clauses.Movements.{first_date, last_date}
use Rattle.ssim_program.specs.print.Board.{board_on, date_rows}
use Rattle.ssim_program.proofs.command.board.rows_of_days.Goals as goal

pub returns : goal.returns
returns c =
    let board = c.args.board.now in
    let days = days_of_desk c.args.desk in
    let end = c.end_of-end.result in
    let (near, is, agree) = c.in_ok-flights.ensures in
    let flights : c.deref.result.now ≡ divided_flights near = c.deref.ensures.value ∙ is in
    let last : c.last_date.result ≡ last_date (board_on board (end - 1)) =
    c.last_date.ensures
    ∙ ap last_date (c.board_on-last.ensures ∙ ap (board_on board) c.day_before.ensures) in
    let right : AgreeBetween (first_date board) (last_date (board_on board (end - 1))) near days =
    subst (λ (n : ℕ). AgreeBetween (first_date board) n near days) last
    (subst (λ (n : ℕ). AgreeBetween n c.last_date.result near days) c.first_date.ensures agree) in
    let ended = c.end_of-end.ensures.value in
    let count : end - board.day ≡ min c.args.count (36525 - board.day) = omega (arith, ended) in
    let f : ℕ → List ℕ = λ day. date_rows c.args.only c.args.airline days (board_on board day) in
    if_ok c.rows_of_dates.result
    (λ rows made. made days near flights right
    ∙ ap (λ (n : ℕ). row movement_names ++ flat_map f (range_with_len board.day n)) count)
    c.rows_of_dates.ensures
