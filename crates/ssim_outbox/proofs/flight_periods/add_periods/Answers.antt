-- One period more.
use Rattle.ssim_outbox.proofs.flight_periods.add_periods.Goals as goal

pub loop-piece-preserved : goal.loop-piece-preserved
loop-piece-preserved c = (
  λ from to change_is is. c.in_ok-add_piece.ensures.draft from to change_is
      (c.loop-piece.invariant.0 from to change_is is),
  c.in_ok-add_piece.ensures.left,
)
