-- The flights are right near all of the dates.
use Rattle.std.proofs.Common.{◌≡◌, ◌∙◌, ◌-◌, ℕ, List, Option, Vec, Global, map, min, ap, subst, sym, arith}
use Rattle.std.specs.List.{range_with_len}
use Rattle.ssim_base.proofs.Results.{if_ok}
use Rattle.ssim_schedule.specs.FlightPieces.{divided_flights}
use Rattle.ssim_schedule.specs.clauses.Dates.{AgreeBetween}
use Rattle.ssim_desk.specs.Desk.{days_of_desk}
use Rattle.ssim_board.specs.clauses.Movements.{first_date, last_date}
use Rattle.ssim_program.specs.print.Blocks.{blocks}
use Rattle.ssim_program.specs.print.Board.{board_on, headed_lines, lines_of_days}
use Rattle.ssim_program.proofs.command.board.lines_of_days.Goals as goal

pub returns-in_ok-shown-in-Some : goal.returns-in_ok-shown-in-Some
returns-in_ok-shown-in-Some c =
    let board = c.args.board.now in
    let days = days_of_desk c.args.desk in
    let only = c.args.form.only in
    let airline = c.args.airline in
    let end = c.end_of-end.result in
    let (near, is, agree) = c.in_ok-flights-in-Some.ensures in
    let flights : c.deref-in-Some.result.now ≡ divided_flights near =
    c.deref-in-Some.ensures.value ∙ is in
    let last : c.last_date-in-Some.result ≡ last_date (board_on board (end - 1)) =
    c.last_date-in-Some.ensures
    ∙ ap last_date (c.board_on-last.ensures ∙ ap (board_on board) c.day_before.ensures) in
    let right : AgreeBetween (first_date board) (last_date (board_on board (end - 1))) near days =
    subst (λ (n : ℕ). AgreeBetween (first_date board) n near days) last
    (subst (λ (n : ℕ). AgreeBetween n c.last_date-in-Some.result near days)
    c.first_date-in-Some.ensures agree) in
    let ended = c.end_of-end.ensures.value in
    let count : end - board.day ≡ min c.in-Some.count (36525 - board.day) = omega (arith, ended) in
    let f : ℕ → List ℕ = λ day. headed_lines only airline days (board_on board day) in
    let bytes : Vec ℕ Global → List ℕ = λ b. b.items in
    let shown =
    ap (map bytes) c.deref-in-Some-2.ensures.value
    ∙ c.in_ok-shown-in-Some.ensures days near flights right
    ∙ ap (λ (n : ℕ). map f (range_with_len board.day n)) count in
    if_ok c.joined.result
    (λ lines made. made ∙ ap blocks shown
    ∙ sym (ap (λ (d : Option ℕ). lines_of_days d only airline days board) c.in-Some.is))
    c.joined.ensures
