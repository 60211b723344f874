-- The pair of points is two of the leg lines, of which there are at most twenty.
use Rattle.std.proofs.Common.{ℕ, arith, sym, ◌∙◌}
use Rattle.ssim_schedule.proofs.LegPairs.{pair_below}
use Rattle.ssim_schedule.proofs.effect.new_legs.tail_for.Goals as goal

pub segment_tail-requires-clause-from : goal.segment_tail-requires-clause-from
segment_tail-requires-clause-from c =
    let pair : ℕ × ℕ = (c.in-Some.from, c.in-Some.to) in
    let below = pair_below c.args.segment.now.board c.args.segment.now.off 0 c.args.lines.now pair (sym c.leg_pair.ensures ∙ c.in-Some.is) in
    omega (arith, below.from, c.requires)

pub segment_tail-requires-clause-to : goal.segment_tail-requires-clause-to
segment_tail-requires-clause-to c =
    let pair : ℕ × ℕ = (c.in-Some.from, c.in-Some.to) in
    let below = pair_below c.args.segment.now.board c.args.segment.now.off 0 c.args.lines.now pair (sym c.leg_pair.ensures ∙ c.in-Some.is) in
    omega (arith, below.to, c.requires)
