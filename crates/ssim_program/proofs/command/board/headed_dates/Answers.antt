-- One date more is shown, of flights that are right near it.
use Rattle.std.proofs.Common.{◌≡◌, ◌∙◌, ◌≤◌, ◌<◌, ◌-◌, ◌∷◌, ◌++◌, [], ℕ, List, Vec, Global, map, ap, subst}
use Rattle.std.proofs.Common.{sym, arith}
use Rattle.std.specs.List.{range_with_len}
use Rattle.std.proofs.lemmas.List.{map-append}
use Rattle.ssim_schedule.specs.clauses.Dates.{AgreeBetween}
use Rattle.ssim_board.specs.clauses.Movements.{first_date, last_date}
use Rattle.ssim_board.specs.declared.board.Board.{Board}
use Rattle.ssim_program.specs.print.Board.{board_on, headed_lines}
use Rattle.ssim_program.proofs.BoardDates.{near_date, shown_next}
use Rattle.ssim_program.proofs.command.board.headed_dates.Goals as goal

pub loop-number-preserved : goal.loop-number-preserved
loop-number-preserved c =
    let board = c.args.board.now in
    let number = c.loop-number.number in
    let end = c.args.end in
    let begun : board.day ≤ number = c.loop-number.invariant.begun in
    let before : number < end = c.loop-number-test.true in
    let bytes : Vec ℕ Global → List ℕ = λ b. b.items in
    let here : c.board_on.result ≡ board_on board number =
    c.board_on.ensures ∙ ap (board_on board) c.in-Some.ensures.value in
    record {
      begun = omega arith;
      within = omega (arith, begun, before);
      so_far = λ days near e agree.
          let f : ℕ → List ℕ =
          λ day. headed_lines c.args.only c.args.airline days (board_on board day) in
          let now = c.loop-number.shown.items in
          let lines = c.in_ok-lines.lines in
          let one = c.in_ok-lines.ensures days near e
          (subst (λ (b : Board). AgreeBetween (first_date b) (last_date b) near days) (sym here)
          (near_date board near days number end begun before c.requires agree)) in
          let shown : lines.items ≡ f number =
          one ∙ ap (headed_lines c.args.only c.args.airline days) here in
          shown_next f board.day number (map bytes now) (map bytes c.push.new.self.items) begun
          (c.loop-number.invariant.so_far days near e agree)
          (ap (map bytes) c.in_ok-push.ensures.items ∙ map-append bytes now (lines ∷ [])
          ∙ ap (λ (line : List ℕ). map bytes now ++ line ∷ []) shown);
    }

pub returns : goal.returns
returns c = λ days near e agree.
    let board = c.args.board.now in
    let number = c.loop-number.number in
    let ended = c.loop-number-test.false in
    let begun = c.loop-number.invariant.begun in
    let within = c.loop-number.invariant.within in
    let count : number - board.day ≡ c.args.end - board.day = omega (arith, ended, begun, within) in
    c.loop-number.invariant.so_far days near e agree
    ∙ ap (λ (n : ℕ). map (λ day. headed_lines c.args.only c.args.airline days (board_on board day))
    (range_with_len board.day n)) count
