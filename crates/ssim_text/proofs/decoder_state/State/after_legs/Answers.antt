-- The 100th segment line.
use Rattle.std.proofs.Common.{arith, sym, ◌∙◌}
use Rattle.ssim_text.proofs.Arms.{segments_full}
use Rattle.ssim_text.proofs.decoder_state.State.after_legs.Goals as goal

pub returns-then-segment_count-ge99-clause-err : goal.returns-then-segment_count-ge99-clause-err
returns-then-segment_count-ge99-clause-err c =
    segments_full c.args.message c.args.body c.in-Some.segment c.args.line.now c.requires (c.in_ok-read.ensures ∙ c.in-Some.is) (sym c.fits.ensures ∙ c.if-not-fits.false) (omega (arith, c.segment_count.ensures, c.if-segment_count-ge99.true))
