-- The pair of points is two of the leg lines, of which there are at most twenty.
use Rattle.std.proofs.Common.{ℕ, arith, sym, ◌∙◌}
use Rattle.ssim_schedule.proofs.LegPairs.{pair_below}
use Rattle.ssim_outbox.proofs.segment_tails.tail_made.Goals as goal

pub overflow_cast-letters : goal.overflow_cast-letters
overflow_cast-letters c =
    let pair : ℕ × ℕ = (c.in_ok-from.from, c.in_ok-from.to) in
    let below = pair_below c.in_ok-board.board c.in_ok-board.off 0 c.args.lines.now pair
    (sym c.leg_pair.ensures ∙ c.in_ok-from.was) in
    omega (arith, below.from, c.requires)

pub overflow_add-letters : goal.overflow_add-letters
overflow_add-letters c =
    let pair : ℕ × ℕ = (c.in_ok-from.from, c.in_ok-from.to) in
    let below = pair_below c.in_ok-board.board c.in_ok-board.off 0 c.args.lines.now pair
    (sym c.leg_pair.ensures ∙ c.in_ok-from.was) in
    omega (arith, below.from, c.requires)

pub overflow_cast-letters-2 : goal.overflow_cast-letters-2
overflow_cast-letters-2 c =
    let pair : ℕ × ℕ = (c.in_ok-from.from, c.in_ok-from.to) in
    let below = pair_below c.in_ok-board.board c.in_ok-board.off 0 c.args.lines.now pair
    (sym c.leg_pair.ensures ∙ c.in_ok-from.was) in
    omega (arith, below.to, c.requires)

pub overflow_add-letters-2 : goal.overflow_add-letters-2
overflow_add-letters-2 c =
    let pair : ℕ × ℕ = (c.in_ok-from.from, c.in_ok-from.to) in
    let below = pair_below c.in_ok-board.board c.in_ok-board.off 0 c.args.lines.now pair
    (sym c.leg_pair.ensures ∙ c.in_ok-from.was) in
    omega (arith, below.to, c.requires)
