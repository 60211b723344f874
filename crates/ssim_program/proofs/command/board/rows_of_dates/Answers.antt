-- The rows of one date more, of flights that are right near it.
use Rattle.std.proofs.Common.{◌≡◌, ◌∙◌, ◌≤◌, ◌<◌, ◌-◌, ◌++◌, [], ℕ, zero, List, ap, append-nil, subst, sym, arith}
use Rattle.std.specs.List.{flat_map, range_with_len}
use Rattle.std.proofs.lemmas.Result.{IfOk-weaker}
use Rattle.ssim_schedule.specs.clauses.Dates.{AgreeBetween}
use Rattle.ssim_board.specs.Rows.{movement_names}
use Rattle.ssim_board.specs.clauses.Movements.{first_date, last_date}
use Rattle.ssim_board.specs.declared.board.Board.{Board}
use Rattle.ssim_listing.specs.Rows.{row}
use Rattle.ssim_program.specs.print.Board.{board_on, date_rows}
use Rattle.ssim_program.proofs.BoardDates.{near_date, rows_next}
use Rattle.ssim_program.proofs.command.board.rows_of_dates.Goals as goal

pub loop-number-init : goal.loop-number-init
loop-number-init c =
    let board = c.args.board.now in
    let from = board.day in
    record {
      begun = omega arith;
      within = omega arith;
      so_far = λ days near e agree.
          let f : ℕ → List ℕ =
          λ day. date_rows c.args.only c.args.airline days (board_on board day) in
          let none : zero ≡ c.number-number.result - from =
          omega (arith, c.number-number.ensures.value) in
          c.in_ok-rows.ensures ∙ sym (append-nil (row movement_names))
          ∙ ap (λ (n : ℕ). row movement_names ++ flat_map f (range_with_len from n)) none;
    }

pub loop-number-preserved : goal.loop-number-preserved
loop-number-preserved c =
    let board = c.args.board.now in
    let number = c.loop-number.number in
    let end = c.args.end in
    let begun : board.day ≤ number = c.loop-number.invariant.begun in
    let before : number < end = c.loop-number-test.true in
    let here : c.board_on.result ≡ board_on board number =
    c.board_on.ensures ∙ ap (board_on board) c.in-Some.ensures.value in
    record {
      begun = omega arith;
      within = omega (arith, begun, before);
      so_far = λ days near e agree.
          let f : ℕ → List ℕ =
          λ day. date_rows c.args.only c.args.airline days (board_on board day) in
          let one = c.in_ok-push_date.ensures days near e
          (subst (λ (b : Board). AgreeBetween (first_date b) (last_date b) near days) (sym here)
          (near_date board near days number end begun before c.requires agree)) in
          rows_next f (row movement_names) board.day number c.loop-number.rows
          c.push_date.new.rows begun (c.loop-number.invariant.so_far days near e agree)
          (one ∙ ap (λ (b : Board). c.loop-number.rows
          ++ date_rows c.args.only c.args.airline days b) here);
    }

pub returns : goal.returns
returns c =
    IfOk-weaker c.into_bytes.result _ _
    (λ bytes of days near e agree.
    let board = c.args.board.now in
    let number = c.loop-number.number in
    let ended = c.loop-number-test.false in
    let begun = c.loop-number.invariant.begun in
    let within = c.loop-number.invariant.within in
    let count : number - board.day ≡ c.args.end - board.day = omega (arith, ended, begun, within) in
    of
    ∙ c.loop-number.invariant.so_far days near e agree
    ∙ ap (λ (n : ℕ). row movement_names
    ++ flat_map (λ day. date_rows c.args.only c.args.airline days (board_on board day))
    (range_with_len board.day n)) count)
    c.into_bytes.ensures
