-- A leg line after a segment line, and the 21st leg line.
use Rattle.std.proofs.Common.{arith, sym, ◌∙◌}
use Rattle.ssim_text.proofs.Arms.{leg_behind_segments, legs_full}
use Rattle.ssim_text.proofs.decoder_state.State.after_leg.Goals as goal

pub returns-then-not-has_no_segment-clause-err : goal.returns-then-not-has_no_segment-clause-err
returns-then-not-has_no_segment-clause-err c =
    leg_behind_segments c.args.message c.args.body c.in-Some.leg c.args.line.now c.in-Some.ensures.some (sym c.has_no_segment.ensures ∙ c.if-not-has_no_segment.true)

pub returns-then-leg_count-ge20-clause-err : goal.returns-then-leg_count-ge20-clause-err
returns-then-leg_count-ge20-clause-err c =
    legs_full c.args.message c.args.body c.in-Some.leg c.args.line.now c.in-Some.ensures.some (sym c.has_no_segment.ensures ∙ c.if-not-has_no_segment.false) (omega (arith, c.leg_count.ensures, c.if-leg_count-ge20.true))
